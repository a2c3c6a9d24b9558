use Rattle.std.proofs.Common.{arith, rules}
use Rattle.sound_tree.proofs.Edges.{onward-place, onward-open, onward-closer, sum_fits, sums, reached-place, reached-closer, has-least, onward-reads}
use Rattle.sound_tree.proofs.TreeCheck.edge_leads_on.Goals as goal

pub bounds-self-closed : goal.bounds-self-closed
bounds-self-closed c = search (rules, onward-place)

pub returns-then-word-eq0 : goal.returns-then-word-eq0
returns-then-word-eq0 c = search (rules, onward-open)

pub evaluation-requires : goal.evaluation-requires
evaluation-requires c = search (rules, onward-closer)

pub overflow_add-sum : goal.overflow_add-sum
overflow_add-sum c = search (rules, sum_fits)

pub bounds-self-closed-2 : goal.bounds-self-closed-2
bounds-self-closed-2 c = reached-place (sums c.requires.0 c.requires.1 c.closed_at-closed.ensures c.edge_of-edge.ensures.0 c.if-word-eq0.false c.evaluation.ensures c.edge_of-edge.ensures.1.1 c.weight_of.ensures c.edge_of-edge.ensures.1.0)

pub evaluation-requires-then-reached-ne0 : goal.evaluation-requires-then-reached-ne0
evaluation-requires-then-reached-ne0 c = reached-closer (sums c.requires.0 c.requires.1 c.closed_at-closed.ensures c.edge_of-edge.ensures.0 c.if-word-eq0.false c.evaluation.ensures c.edge_of-edge.ensures.1.1 c.weight_of.ensures c.edge_of-edge.ensures.1.0) c.if-reached-ne0.true

pub bounds-costs-to : goal.bounds-costs-to
bounds-costs-to c = has-least (sums c.requires.0 c.requires.1 c.closed_at-closed.ensures c.edge_of-edge.ensures.0 c.if-word-eq0.false c.evaluation.ensures c.edge_of-edge.ensures.1.1 c.weight_of.ensures c.edge_of-edge.ensures.1.0)

pub returns-then-evaluation-sum : goal.returns-then-evaluation-sum
returns-then-evaluation-sum c = grind (arith, onward-reads (sums c.requires.0 c.requires.1 c.closed_at-closed.ensures c.edge_of-edge.ensures.0 c.if-word-eq0.false c.evaluation.ensures c.edge_of-edge.ensures.1.1 c.weight_of.ensures c.edge_of-edge.ensures.1.0))

pub returns-else-evaluation-sum : goal.returns-else-evaluation-sum
returns-else-evaluation-sum c = grind (arith, onward-reads (sums c.requires.0 c.requires.1 c.closed_at-closed.ensures c.edge_of-edge.ensures.0 c.if-word-eq0.false c.evaluation.ensures c.edge_of-edge.ensures.1.1 c.weight_of.ensures c.edge_of-edge.ensures.1.0))
