-- What a division owes to those it is made over.
use Rattle.std.specs.Prelude.{◌≡◌, ℕ, ◌+◌, ◌*◌, ◌<◌, ◌≤◌, List, length, sum, slice_index}

-- the parts ps of an amount a by the weights ws; a comparison with an exact proportion is multiplied by the sum of the weights
pub record Fair (a : ℕ) (ws ps : List ℕ) : Type 0 where
  -- nothing is lost and nothing is made
  pub whole : sum ps ≡ a
  -- less than one above its exact proportion, and less than one below
  pub below : (k : ℕ) → k < length ws → sum ws * slice_index ps k < a * slice_index ws k + sum ws
  pub above : (k : ℕ) → k < length ws → a * slice_index ws k < sum ws * slice_index ps k + sum ws
  -- no weight, no part
  pub none : (k : ℕ) → k < length ws → slice_index ws k ≡ 0 → slice_index ps k ≡ 0
  -- of an amount not above the weights in sum, no part is above its weight
  pub within : a ≤ sum ws → (k : ℕ) → k < length ws → slice_index ps k ≤ slice_index ws k
