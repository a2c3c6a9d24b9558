-- What an order sheet is lent.
-- Assumes nothing.
use Rattle.std.specs.Prelude.{ℕ}

-- "reads chart.txt and orders.txt, each at most 65,536 bytes, lends each direction 16,000 words with 16 slots"
abbrev pub max_bytes : ℕ
max_bytes = 65536

abbrev pub lent_words : ℕ
lent_words = 16000

abbrev pub lent_slots : ℕ
lent_slots = 16
