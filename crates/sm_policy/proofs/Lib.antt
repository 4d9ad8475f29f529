mod Climbs
