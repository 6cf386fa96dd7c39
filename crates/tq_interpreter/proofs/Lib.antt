mod ShellLines
mod Recording
