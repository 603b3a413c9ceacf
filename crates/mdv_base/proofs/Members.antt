-- Lists of members.
use Rattle.std.proofs.Common.{◌≡◌, ℕ, zero, suc, false, slice_index_or, replicate, refl}

-- where all is false nothing is a member
pub no_member : (count n : ℕ) → slice_index_or (replicate count false) n false ≡ false
no_member zero n = refl
no_member (suc count) zero = refl
no_member (suc count) (suc n) = no_member count n
