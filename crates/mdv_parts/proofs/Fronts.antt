-- A run of parts of one kind, read part by part.
use Rattle.std.proofs.Common.{◌≡◌, Option, None, Some, sym, ◌∙◌, ap, List, [], ◌∷◌, ◌++◌, append_assoc, append-nil}
use Rattle.mdv_parts.specs.declared.part.Part.{Part}
use Rattle.mdv_parts.specs.Runs.{grown, front, passed, behind}

-- the run is what was read and the run at the front of the rest
pub record RunSoFar {A : Type 0} (kind : Part → Option A) (parts rest : List Part) (xs : List A) : Type 0 where
  pub named : front kind parts ≡ xs ++ front kind rest
  pub behind : behind kind parts ≡ behind kind rest

pub run_more : {A : Type 0} (kind : Part → Option A) (parts rest : List Part) (xs : List A) (p : Part) (x : A) → RunSoFar kind parts (p ∷ rest) xs → kind p ≡ Some x → RunSoFar kind parts rest (xs ++ x ∷ [])
run_more kind parts rest xs p x far is =
    record {
      named = far.named ∙ ap (λ (o : Option _). xs ++ grown o (front kind rest)) is ∙ sym (append_assoc xs (x ∷ []) (front kind rest));
      behind = far.behind ∙ ap (λ (o : Option _). passed o (p ∷ rest) (behind kind rest)) is;
    }

pub run_ends : {A : Type 0} (kind : Part → Option A) (parts rest : List Part) (xs : List A) (p : Part) → RunSoFar kind parts (p ∷ rest) xs → kind p ≡ None → (xs ≡ front kind parts) × (p ∷ rest ≡ behind kind parts)
run_ends kind parts rest xs p far is =
    (sym (far.named ∙ ap (λ (o : Option _). xs ++ grown o (front kind rest)) is ∙ append-nil xs), sym (far.behind ∙ ap (λ (o : Option _). passed o (p ∷ rest) (behind kind rest)) is))

pub run_whole : {A : Type 0} (kind : Part → Option A) (parts : List Part) (xs : List A) → RunSoFar kind parts [] xs → (xs ≡ front kind parts) × ([] ≡ behind kind parts)
run_whole kind parts xs far = (sym (far.named ∙ append-nil xs), sym far.behind)
