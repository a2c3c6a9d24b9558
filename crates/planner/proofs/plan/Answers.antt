use Rattle.std.proofs.Common.{rules, ◌∙◌, sym}
use Rattle.sound.proofs.Facts.{sound-words-at}
use Rattle.unchecked.proofs.RetracedNode.{held-retraced}
use Rattle.planner.proofs.Planned.{not_sound, has-run}
use Rattle.planner.proofs.plan.Goals as goal

pub returns-then-not-is_sound : goal.returns-then-not-is_sound
returns-then-not-is_sound c = search (rules, not_sound)

pub run_search-run-requires : goal.run_search-run-requires
run_search-run-requires c = search (rules, sound-words-at)

pub returns : goal.returns
returns c =
    has-run _ _ _ _ (sym c.is_sound.ensures ∙ c.if-not-is_sound.false) c.run_search-run.ensures c.retrace_shown-retraced.result
    (held-retraced _ _ _ c.held_in.ensures _ _ _ c.retrace_shown-retraced.ensures) c.has_moves.ensures
