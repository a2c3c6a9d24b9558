use Rattle.order_run.proofs.Texts.{puts-as, held-line, ran-search}
use Rattle.order_run.proofs.put_search.Goals as goal

pub returns : goal.returns
returns c = ran-search c.run_search-run.ensures c.args.order c.answer_of.ensures (puts-as (held-line _ _ _ _ c.held_in.ensures) c.put_shown.ensures)
