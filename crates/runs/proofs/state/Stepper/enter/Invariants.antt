use Rattle.runs.proofs.state.Stepper.enter.Given as goal

abbrev pub decreases-loop-inner : goal.decreases-loop-inner
decreases-loop-inner g l = l.at
