mod WordLaws
mod GatheringLaws
mod ByteLaws
