use Rattle.tq_shell.proofs.outcome.write_unclosed.Goals as goal

pub returns : goal.returns
returns g c =
    rw c.new-line.ensures.items at (rw c.in_ok-say_line.ensures.text at (rw c.as_slice.ensures.value at c.write_line.ensures))
