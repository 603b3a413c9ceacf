-- What a giving of replies does to the tale.
use Rattle.std.proofs.Common.{◌≡◌, ◌⊎◌, inl, inr, ℕ, ◌≤◌, List, [], length, take, Option, Some, refl, sym, ◌∙◌, ◌++◌, ap, arith}
use Rattle.std.proofs.lemmas.List.{append-nil, take_all}
use Rattle.mdv_engine_law.specs.Below.{Tale, Then, Gave, KeptOutside, nowhere, and_then, Grew}
use Rattle.mdv_shelf.specs.Tale.{told}
use Rattle.mdv_shelf.proofs.Blocks.{kept_unwritten}
use Rattle.mdv_shelf.proofs.Moments.{grew_none, grew_one}
use Rattle.mdv_engine_law.specs.declared.answer.Answer.{Answer}
use Rattle.mdv_engine_law.specs.declared.answer.Reply.{Reply}
use Rattle.mdv_engine_law.specs.declared.answer.Reply.TheVariants as reply
use Rattle.mdv_engine_law.specs.Replies.{IsTold}
use Rattle.mdv_engine_law.specs.Standing.{OnlyReplied, TellMoment}
use Rattle.mdv_shelf.proofs.Frame.{kept_outside_same}

-- these bytes more were told, and no block was touched
record Tells (t : Tale) (new : Option Tale) (bytes : List ℕ) : Type 0 where
  pub after : Tale
  pub is : new ≡ Some after
  pub more : told after ≡ told t ++ bytes
  pub kept : KeptOutside nowhere t after

told_gave : (t : Tale) (piece : List ℕ) (count : ℕ) → told (Then t (Gave piece count)) ≡ told t ++ take count piece
unfolding told
told_gave t piece count = refl

tells_nothing : (t : Tale) (new : Option Tale) → new ≡ Some t → Tells t new []
tells_nothing t new is = record { after = t; is = is; more = sym (append-nil (told t)); kept = kept_outside_same nowhere t }

tells_front : (t : Tale) (old new : Option Tale) (piece : List ℕ) (count : ℕ) → old ≡ Some t → new ≡ and_then old (Gave piece count) → Tells t new (take count piece)
tells_front t old new piece count was is = record {
  after = Then t (Gave piece count);
  is = is ∙ ap (λ (o : Option Tale). and_then o (Gave piece count)) was;
  more = told_gave t piece count;
  kept = λ drive block out. kept_unwritten t (Gave piece count) drive block refl;
}

tells_whole : (t : Tale) (old new : Option Tale) (piece : List ℕ) → old ≡ Some t → new ≡ and_then old (Gave piece (length piece)) → Tells t new piece
tells_whole t old new piece was is =
    let front = tells_front t old new piece (length piece) was is in
    record { after = front.after; is = front.is; more = front.more ∙ ap (λ (l : List ℕ). told t ++ l) (take_all (length piece) piece (omega arith)); kept = front.kept }

-- the moments of a giving
module _ (text : List ℕ) (t : Tale) (piece : List ℕ) (is : piece ≡ text) where
  telling : (k : ℕ) → TellMoment text t (Then t (Gave piece k))
  telling k = record {
    kept = λ drive block out. kept_unwritten t (Gave piece k) drive block refl;
    count = k;
    is_told = told_gave t piece k ∙ ap (λ (l : List ℕ). told t ++ take k l) is;
  }

  pub telling_none : TellMoment text t t
  telling_none = record { kept = kept_outside_same nowhere t; count = 0; is_told = sym (append-nil (told t)) }

  pub telling_grew : (old new : Option Tale) (count : ℕ) → old ≡ Some t → new ≡ and_then old (Gave piece count) → (u : Tale) × (new ≡ Some u) × Grew (TellMoment text t) t u
  telling_grew old new count was given =
      (Then t (Gave piece count), given ∙ ap (λ (o : Option Tale). and_then o (Gave piece count)) was, grew_one (TellMoment text t) t (Gave piece count) telling_none (λ k le. telling k))

  pub telling_still : (new : Option Tale) → new ≡ Some t → (u : Tale) × (new ≡ Some u) × Grew (TellMoment text t) t u
  telling_still new same = (t, same, grew_none (TellMoment text t) t telling_none)

-- a giving that went through: the whole text was told
pub told_whole : (failed : Type 0) (answer : Answer) (r : Reply) (piece : List ℕ) (t : Tale) (old new : Option Tale) → old ≡ Some t → new ≡ and_then old (Gave piece (length piece)) → IsTold failed answer r piece
    → (u : Tale) × (new ≡ Some u) × OnlyReplied failed answer r t u
told_whole failed answer r piece t old new was is as_told =
    let whole = tells_whole t old new piece was is in
    (whole.after, whole.is, record { replied = record { piece = piece; is_told = whole.more; as_told = as_told }; kept = whole.kept })

-- a giving that failed: a front of the text was told, or nothing
pub tells_some : (failed : Type 0) (text : List ℕ) (answer : Answer) (t : Tale) (old new : Option Tale) → old ≡ Some t → ((count : ℕ) (piece : List ℕ) → piece ≡ take count text → IsTold failed answer reply.Told piece)
    → (new ≡ old) ⊎ ((count : ℕ) × (count ≤ length text) × (new ≡ and_then old (Gave text count)))
    → (u : Tale) × (new ≡ Some u) × OnlyReplied failed answer reply.Told t u
tells_some failed text answer t old new was front (inl same) =
    let none = tells_nothing t new (same ∙ was) in
    (none.after, none.is, record { replied = record { piece = []; is_told = none.more; as_told = front 0 [] refl }; kept = none.kept })
tells_some failed text answer t old new was front (inr some) =
    let told = tells_front t old new text some.0 was some.2 in
    (told.after, told.is, record { replied = record { piece = take some.0 text; is_told = told.more; as_told = front some.0 (take some.0 text) refl }; kept = told.kept })

pub telling_some : (text : List ℕ) (t : Tale) (piece : List ℕ) (old new : Option Tale) → piece ≡ text → old ≡ Some t
    → (new ≡ old) ⊎ ((count : ℕ) × (count ≤ length piece) × (new ≡ and_then old (Gave piece count)))
    → (u : Tale) × (new ≡ Some u) × Grew (TellMoment text t) t u
telling_some text t piece old new is was (inl same) = telling_still text t piece is new (same ∙ was)
telling_some text t piece old new is was (inr some) = telling_grew text t piece is old new some.0 was some.2
