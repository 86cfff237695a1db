-- Each half has fewer leaves.
use Rattle.word_code.proofs.heads.+tree.Given as goal

abbrev pub decreases-tree : goal.decreases-tree
decreases-tree l = l.count
