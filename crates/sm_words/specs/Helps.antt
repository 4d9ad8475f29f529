-- The texts that tell how a command is used.
use Rattle.std.specs.Prelude.{ℕ, List, ◌++◌, codes}
use Rattle.sm_words.specs.declared.topic.Topic.{Topic}
use Rattle.sm_words.specs.declared.topic.Topic.TheVariants as topic

-- how its words stand
abbrev pub usage_of : Topic → List ℕ
usage_of topic.All = codes "usage: smooth COMMAND [WORDS], and one of\n    serve list push play relay standby pick export rehearse help version\n"
usage_of topic.Serve = codes "usage: smooth serve STORE --port N [--bind ADDRESS] [--ladder] [--journal FILE] [--turns N] [--players N]\n"
usage_of topic.List = codes "usage: smooth list STORE\n"
usage_of topic.Push = codes "usage: smooth push HOST PORT PATH ID < PUSH\n"
usage_of topic.Play = codes "usage: smooth play HOST PORT PATH STREAM... [--from N] [--count N] [--tries N] [--refresh N]\n"
usage_of topic.Relay = codes "usage: smooth relay HOST PORT PATH STORE [--rounds N] [--tries N] [--journal FILE] < LADDER\n"
usage_of topic.Standby = codes "usage: smooth standby HOST PORT PATH STORE [--rounds N] [--tries N] [--journal FILE] < LADDER\n"
usage_of topic.Pick = codes "usage: smooth pick TRACK TIME < PUSH > FRAGMENT\n"
usage_of topic.Export = codes "usage: smooth export STORE NAME BITRATE < HEADER > FILE\n"
usage_of topic.Rehearse = codes "usage: smooth rehearse NUMBER SIZE\n"

-- what it is for, its options with their ranges, and an example
abbrev pub help_of : Topic → List ℕ
help_of topic.All =
    codes "smooth: a live origin and a client for Smooth Streaming\n"
    ++ (codes "\n"
    ++ (codes "  smooth serve STORE --port N    serves an event to encoders and players\n"
    ++ (codes "  smooth list STORE              lists what a store keeps\n"
    ++ (codes "  smooth push HOST PORT PATH ID  sends a push to an origin\n"
    ++ (codes "  smooth play HOST PORT PATH STREAM...\n"
    ++ (codes "                                 plays streams of an origin into files\n"
    ++ (codes "  smooth relay HOST PORT PATH STORE\n"
    ++ (codes "                                 pulls what an origin lists into a store\n"
    ++ (codes "  smooth standby HOST PORT PATH STORE\n"
    ++ (codes "                                 rebuilds the store of an origin, to take over\n"
    ++ (codes "  smooth pick TRACK TIME         takes one fragment out of a push\n"
    ++ (codes "  smooth export STORE NAME BITRATE\n"
    ++ (codes "                                 writes one quality of a store as a file\n"
    ++ (codes "  smooth rehearse NUMBER SIZE    runs an origin and its clients in memory\n"
    ++ (codes "  smooth help COMMAND            says more of a command\n"
    ++ (codes "  smooth version                 says which version this is\n"
    ++ (codes "\n"
    ++ (codes "An option is written --name N or --name=N. Behind -- no word is an option.\n"))))))))))))))))))
help_of topic.Serve =
    codes "usage: smooth serve STORE --port N [--bind ADDRESS] [--ladder] [--journal FILE] [--turns N] [--players N]\n"
    ++ (codes "\n"
    ++ (codes "Serves the event in the folder STORE, which is made where it isn't there. Encoders push to\n"
    ++ (codes "/NAME.isml/Streams(ID), and players ask for /NAME.isml/Manifest.\n"
    ++ (codes "\n"
    ++ (codes "  --port N        the port, 1 to 65535; with --players to 65534\n"
    ++ (codes "  --bind ADDRESS  listens at this IPv4 or IPv6 address alone; default all of the machine\n"
    ++ (codes "  --ladder        reads the tracks of the event from the input and declares them first\n"
    ++ (codes "  --journal FILE  appends a line for each connection, request and push to FILE\n"
    ++ (codes "  --turns N       ends after N events, 1 to 9223372036854775807; default the most\n"
    ++ (codes "  --players N     answers players by N threads, 1 to 16, at the port behind; default none\n"
    ++ (codes "\n"
    ++ (codes "  smooth serve /var/lib/smooth/store --port 8080\n"))))))))))))
help_of topic.List =
    codes "usage: smooth list STORE\n"
    ++ (codes "\n"
    ++ (codes "Lists the fragments that the store in the folder STORE keeps, in the order in which they came:\n"
    ++ (codes "keep PLACE NAME BITRATE TIME DURATION SAMPLES.\n"
    ++ (codes "\n"
    ++ (codes "  smooth list /var/lib/smooth/store\n")))))
help_of topic.Push =
    codes "usage: smooth push HOST PORT PATH ID < PUSH\n"
    ++ (codes "\n"
    ++ (codes "Sends the input, at most 268435456 bytes, as one POST to /PATH.isml/Streams(ID), and prints the reply.\n"
    ++ (codes "\n"
    ++ (codes "  PORT            1 to 65535\n"
    ++ (codes "\n"
    ++ (codes "  smooth push localhost 8080 live demo < push.isml\n"))))))
help_of topic.Play =
    codes "usage: smooth play HOST PORT PATH STREAM... [--from N] [--count N] [--tries N] [--refresh N]\n"
    ++ (codes "\n"
    ++ (codes "Plays 1 to 16 streams of /PATH.isml one after another, and appends the first to track-0.frag, the\n"
    ++ (codes "second to track-1.frag, and so on.\n"
    ++ (codes "\n"
    ++ (codes "  PORT            1 to 65535\n"
    ++ (codes "  --from N        the first start, in ticks, 0 to 9223372036854775807; default the first that is listed\n"
    ++ (codes "  --count N       how many fragments of each stream, 1 to 1000000; default 1000000\n"
    ++ (codes "  --tries N       how often each is asked for, 1 to 16; default 3\n"
    ++ (codes "  --refresh N     how many manifests are read for one start, 1 to 10000; default 3\n"
    ++ (codes "\n"
    ++ (codes "  smooth play localhost 8080 live video audio --count 10\n")))))))))))
help_of topic.Relay =
    codes "usage: smooth relay HOST PORT PATH STORE [--rounds N] [--tries N] [--journal FILE] < LADDER\n"
    ++ (codes "\n"
    ++ (codes "Pulls what the origin at HOST and PORT lists of /PATH.isml into the store in the folder STORE, which is\n"
    ++ (codes "made where it isn't there. The ladder in the input, at most 1048576 bytes, is the tracks that are pulled;\n"
    ++ (codes "it is declared where the store has none. What is kept is served by serve.\n"
    ++ (codes "\n"
    ++ (codes "  PORT            1 to 65535\n"
    ++ (codes "  --rounds N      how often the manifest is read, 1 to 1000000; default 1000000\n"
    ++ (codes "  --tries N       how often each thing is asked for, 1 to 16; default 3\n"
    ++ (codes "  --journal FILE  appends a line for each round and each failed request to FILE\n"
    ++ (codes "\n"
    ++ (codes "  smooth relay origin.example.com 8080 live /var/lib/smooth/edge < ladder.xml\n")))))))))))
help_of topic.Standby =
    codes "usage: smooth standby HOST PORT PATH STORE [--rounds N] [--tries N] [--journal FILE] < LADDER\n"
    ++ (codes "\n"
    ++ (codes "Follows the primary at HOST and PORT: rebuilds its store of /PATH.isml, fragment by fragment in its order,\n"
    ++ (codes "in the folder STORE, which is made where it isn't there. The ladder in the input, at most 1048576 bytes,\n"
    ++ (codes "is that of the primary. Where the primary is gone, serve takes over from the store.\n"
    ++ (codes "\n"
    ++ (codes "  PORT            1 to 65535\n"
    ++ (codes "  --rounds N      how often the manifest is read, 1 to 1000000; default 1000000\n"
    ++ (codes "  --tries N       how often each thing is asked for, 1 to 16; default 3\n"
    ++ (codes "  --journal FILE  appends a line for each round and each failed request to FILE\n"
    ++ (codes "\n"
    ++ (codes "  smooth standby primary.example.com 8080 live /var/lib/smooth/store < ladder.xml\n")))))))))))
help_of topic.Pick =
    codes "usage: smooth pick TRACK TIME < PUSH > FRAGMENT\n"
    ++ (codes "\n"
    ++ (codes "Reads the body of a push, at most 268435456 bytes, and writes its first fragment with that track_ID\n"
    ++ (codes "and start, as an origin would serve it.\n"
    ++ (codes "\n"
    ++ (codes "  TRACK           1 to 4294967295\n"
    ++ (codes "  TIME            in ticks, 0 to 9223372036854775807\n"
    ++ (codes "\n"
    ++ (codes "  smooth pick 1 0 < push.isml > first.frag\n"))))))))
help_of topic.Export =
    codes "usage: smooth export STORE NAME BITRATE < HEADER > FILE\n"
    ++ (codes "\n"
    ++ (codes "Writes the pushed header of the input, at most 268435456 bytes, and behind it each fragment that the\n"
    ++ (codes "store keeps of that stream and bitrate, in the order of time: a fragmented MP4 file.\n"
    ++ (codes "\n"
    ++ (codes "  BITRATE         0 to 4294967295\n"
    ++ (codes "\n"
    ++ (codes "  smooth export store video 400000 < push.isml > video.mp4\n")))))))
help_of topic.Rehearse =
    codes "usage: smooth rehearse NUMBER SIZE\n"
    ++ (codes "\n"
    ++ (codes "Runs an origin, two encoders and three clients in memory, over a disk that crashes and a network that\n"
    ++ (codes "loses and cuts replies, and prints what came of it in numbers.\n"
    ++ (codes "\n"
    ++ (codes "  NUMBER          which world, 0 to 2147483647\n"
    ++ (codes "  SIZE            rounds of pushes, 0 to 2000\n"
    ++ (codes "\n"
    ++ (codes "  smooth rehearse 7 200\n"))))))))

abbrev pub version : List ℕ
version = codes "smooth 0.1.0\n"
