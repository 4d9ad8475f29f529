mod PartsLaw
mod ActLaw
mod FrontLaw
