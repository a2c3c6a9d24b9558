use Rattle.std.proofs.Common.{arith}
use Rattle.std.proofs.lemmas.Grind.{merely}
use Rattle.sound.proofs.Kept.{kept-sound}
use Rattle.memory.proofs.Fits.{known-read}
use Rattle.memory.proofs.Entries.{entry-unused, entry-beyond, entry-unsolved, entry-solved}
use Rattle.memory.proofs.entry_is_valid.Goals as goal

pub returns-then-trees-slot : goal.returns-then-trees-slot
returns-then-trees-slot c = search entry-unused

pub returns-then-not-is_within : goal.returns-then-not-is_within
returns-then-not-is_within c =
    let known = known-read (kept-sound c.args.cache.sound) c.args.memory.last_known_closed_len c.vertices.ensures c.is_within.ensures in search (entry-beyond, known)

pub returns-in-None : goal.returns-in-None
returns-in-None c =
    let known = known-read (kept-sound c.args.cache.sound) c.args.memory.last_known_closed_len c.vertices.ensures c.is_within.ensures in search (entry-unsolved, known)

pub returns-in-Some : goal.returns-in-Some
returns-in-Some c =
    let known = known-read (kept-sound c.args.cache.sound) c.args.memory.last_known_closed_len c.vertices.ensures c.is_within.ensures in search (entry-solved, known)

pub invariant_of-closes_goal : goal.invariant_of-closes_goal
invariant_of-closes_goal c =
    record { used = merely (record { sound = kept-sound c.args.cache.sound; slot = omega (arith, c.if-trees-slot.false, c.trees.ensures) }) }
