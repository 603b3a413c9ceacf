-- Values in cells.
use Rattle.std.proofs.Common.{◌≡◌, ◌%◌, ℕ, None, [], length, ◌∙◌, ap, inl, inr, nat_cmp}
use Rattle.std.proofs.lemmas.Bool.{cases_lt}
use Rattle.std.proofs.lemmas.List.{get_or_past}
use Rattle.std.specs.BTreeMap.{get, is_at}
use Rattle.std.specs.Map.{lookup}
use Rattle.std.specs.List.{All}
use Rattle.mdv_fitting.specs.Held.{cell_at, held, in_cell}
use Rattle.mdv_fitting.specs.declared.held.Held.{Held}

-- cells that have nothing hold nothing
pub held_none : {V : Type 0} (m : Held V) → All (λ c. c ≡ None) m.cells.items → m.rest.entries ≡ [] → (k : ℕ) → held m k ≡ None
held_none m cells rest k = ap (λ c. in_cell c (get nat_cmp m.rest k) k) here ∙ ap (lookup (is_at (nat_cmp k))) rest
  where
    here : cell_at m k ≡ None
    here = elim (cases_lt (k % 8191) (length m.cells.items)) [
      | inl within ↦ cells (k % 8191) None within
      | inr past ↦ get_or_past m.cells.items (k % 8191) None past
    ]
