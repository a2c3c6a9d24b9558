-- What is known of the words of a cache whose header and graph words passed their tests: facts, for proofs.
-- Assumes nothing.
use Rattle.std.specs.Prelude.{◌≡◌, List, ℕ, ◌<◌, ◌≤◌, length, get_or}
use Rattle.model.specs.Graph.{Accepted, edge_numbers}
use Rattle.layout.specs.Layout.{Sized, place_in, number_in, slots_at}
use Rattle.layout.specs.Words.{first_place}
use Rattle.layout.specs.Read.{domain_of}

-- the words hold an accepted graph and its index
pub record Held (m l : ℕ) (ws : List ℕ) : Type 0 where
  pub sized : Sized m l
  pub fits : slots_at m l ≤ length ws
  pub accepted : Accepted (domain_of m l ws).graph
  pub place : (v : ℕ) → v ≤ m → place_in m l ws v ≡ first_place (domain_of m l ws) v
  pub number : (p : ℕ) → p < l → number_in m l ws p ≡ get_or (edge_numbers (domain_of m l ws)) p 0
