use Rattle.std.proofs.Common.{rules}
use Rattle.new_trees.proofs.Planting.{root-word, root-there, root-is, plant-ends}
use Rattle.new_trees.proofs.plant.Goals as goal

pub root_cost-requires : goal.root_cost-requires
root_cost-requires c = search (rules, root-word)

pub unwrap-cost-requires : goal.unwrap-cost-requires
unwrap-cost-requires c = search (rules, root-there)

pub returns : goal.returns
returns c =
    let cost = root-is c.requires c.root_cost.ensures c.unwrap-cost.ensures in
    search (rules, plant-ends)
