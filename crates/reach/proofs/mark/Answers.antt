use Rattle.std.proofs.Common.{rules}
use Rattle.reach.proofs.Listing.{room, mark-new}
use Rattle.reach.proofs.mark.Goals as goal

pub push-requires : goal.push-requires
push-requires c = search (rules, room)

pub returns : goal.returns
returns c = search (rules, mark-new)
