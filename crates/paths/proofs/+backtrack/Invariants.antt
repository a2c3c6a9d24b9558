use Rattle.paths.proofs.+backtrack.Given as goal

abbrev pub decreases-backtrack : goal.decreases-backtrack
decreases-backtrack l = l.node
