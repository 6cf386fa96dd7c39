mod ParseLaws
mod RuleLaws
mod CommandLaws
mod TqdLaws
