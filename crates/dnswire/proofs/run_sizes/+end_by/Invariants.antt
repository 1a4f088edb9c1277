use Rattle.dnswire.proofs.run_sizes.+end_by.Given as goal

abbrev pub decreases-end_by : goal.decreases-end_by
decreases-end_by l = l.room
