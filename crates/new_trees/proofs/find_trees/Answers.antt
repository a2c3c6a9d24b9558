use Rattle.std.proofs.Common.{◌≡◌, refl, List, ℕ, ◌<◌, arith, rules}
use Rattle.layout.specs.Layout.{trees_in}
use Rattle.sound.specs.Facts.{SoundWords, InUse}
use Rattle.new_trees.proofs.Table.{table_none, start-read, start_small, table-next, table-all}
use Rattle.new_trees.proofs.find_trees.Goals as goal

pub loop-slot-init : goal.loop-slot-init
loop-slot-init c = search (rules, table_none)

-- the slot of the turn is in use
in_use : {ws : List ℕ} {used slot : ℕ} → SoundWords ws → used ≡ trees_in ws → slot < used → InUse ws slot
in_use ok e h = record { sound = ok; slot = omega arith }

-- its tree's start has a place in the table
pub bounds-table-start : goal.bounds-table-start
bounds-table-start c =
    let u = in_use c.requires.sound c.header-used.ensures c.loop-slot-test.true in
    omega (arith, start-read u.sound u.slot c.slot_words.ensures refl, start_small u.sound u.slot, c.loop-slot.invariant.len)

pub loop-slot-preserved : goal.loop-slot-preserved
loop-slot-preserved c =
    let u = in_use c.requires.sound c.header-used.ensures c.loop-slot-test.true in
    table-next u.sound u.slot c.loop-slot.invariant (start-read u.sound u.slot c.slot_words.ensures refl) refl

pub returns : goal.returns
returns c = table-all c.args.words.now c.loop-slot.slot c.loop-slot.invariant (omega (arith, c.header-used.ensures))
