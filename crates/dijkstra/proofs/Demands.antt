-- Demands 2 and 3 on the calls by their promises, from the model's.
-- Assumes nothing.
use mathlib.Core.Path.{sym, ◌∙◌, subst}
use Rattle.model.specs.Demands.{Owed}
use Rattle.model.proofs.Demand2.{demand-2 as model-demand-2}
use Rattle.model.proofs.Demand3.{demand-3 as model-demand-3}
use Rattle.layout.specs.Read.{direction_of}
use Rattle.dijkstra.specs.Demands.{Demand2, Demand3}
use Rattle.dijkstra.proofs.Histories.{in-model}

pub demand-2 : Demand2
demand-2 text d t before ss gs acts es h =
    let x = in-model text d t before ss gs acts es h in
    record {
      graph = x.graph;
      read = x.read;
      same = x.same ∙ sym (model-demand-2 (direction_of d) x.graph x.accepted t before ss gs x.reply acts);
    }

pub demand-3 : Demand3
demand-3 text d t before ss gs acts es h =
    let x = in-model text d t before ss gs acts es h in
    record {
      graph = x.graph;
      read = x.read;
      owed = subst (Owed (direction_of d) x.graph ss gs) (sym x.same) (model-demand-3 (direction_of d) x.graph x.accepted t before ss gs x.reply acts);
    }
