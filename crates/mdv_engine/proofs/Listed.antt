-- What an entry of replicas says, where one is kept.
use Rattle.std.proofs.Common.{◌≡◌, ◌≤◌, ◌*◌, ◌∙◌, ℕ, Bool, List, [], ◌∷◌, arith, Option, Some, None, inl, sym, subst, ap}
use Rattle.mdv_words.specs.Listed.{as_listed}
use Rattle.mdv_tab.specs.declared.entry.Entry.{Entry}
use Rattle.std.proofs.Math.Nat.{mul-le-mul_left, mul-one}
use Rattle.mdv_engine_law.specs.Answers.{refusing}
use Rattle.mdv_engine_law.specs.Commands.{MaySpend, blame_of}
use Rattle.mdv_engine_law.specs.Refusals.{refusal_of}
use Rattle.mdv_engine_law.proofs.Plain.{refusal_plain}
use Rattle.mdv_engine.specs.Below.{AddListed, AddPlaces, AreCalm, AreInForm, Command, Outcomes, Refusal, Replicas, listed_by, meant}
use Rattle.mdv_engine.specs.Ends.{HasAnswered}
use Rattle.mdv_engine.specs.Engine.{IsWell, case_at}
use Rattle.mdv_engine.specs.declared.engine.Engine.{Engine}
use Rattle.mdv_engine.proofs.Ending.{refused_answer}
use Rattle.std.proofs.lemmas.List.Elements.{All-cons, All-nil}
use Rattle.mdv_base.proofs.Order.{first_holds}
use Rattle.mdv_base.specs.Order.{order}
use Rattle.mdv_base.specs.declared.refusal.Refusal.TheVariants.{BadLine}
use Rattle.mdv_engine.proofs.Judged.{IsJudged, creation_judged, judged_mere, judged_said, places_calm}

-- without entries none is kept
pub none_listed : AreInForm []
none_listed number r is = absurd (cc (is))

-- a line that names an entry is refused for what it means, before anything is done
module _ (old : Engine) (number : ℕ) (force : Bool) where
  abbrev Refused : Option Replicas → Refusal → Type 0
  Refused said r = refusal_of (case_at old) (as_listed number force said) ≡ Some r

  pub listed_judged : (said : Option Replicas) (r : Refusal) → Refused said r → IsJudged r
  listed_judged (Some of) r is = creation_judged (case_at old) of.slices force of.count of.blocks r is
  listed_judged None r is = first_holds IsJudged order (BadLine ∷ []) r (All-cons IsJudged BadLine [] tt (All-nil IsJudged)) is

  pub listed_answer : (said : Option Replicas) (r : Refusal) → Refused said r → (calls : Outcomes) → AreCalm calls → IsWell old.host old.state → HasAnswered calls (as_listed number force said) old (refusing r) old
  listed_answer said r is calls calm well =
      let command = as_listed number force said in
      let judged = listed_judged said r is in
      refused_answer calls command old well r (judged_said (blame_of calls old.host old.state command) (MaySpend old.state command) r judged (none said)) (refusal_plain (case_at old) command r is) (inl (judged_mere r judged))
    where
      none : (said : Option Replicas) → (blame_of calls old.host old.state (as_listed number force said)).none
      none (Some of) = places_calm calls old.host old.state of.slices force of.count of.blocks calm
      none None = calm

  -- where one is kept it means that
  module _ (r : Replicas) (is : listed_by old.state.entries number ≡ Some r) where
    pub listed_means : meant old.state.entries (AddListed number force) ≡ AddPlaces r.slices force r.count r.blocks
    listed_means = ap (as_listed number force) is

    pub of_listed : (P : Command → Type 0) → P (AddPlaces r.slices force r.count r.blocks) → P (meant old.state.entries (AddListed number force))
    of_listed P it = subst P (sym listed_means) it

-- what is found among the entries that the engine lends is found among those that are kept
pub is_kept : (old lent : Engine) → lent ≡ old → (entries : List Entry) → entries ≡ lent.state.entries → (number : ℕ) (r : Replicas) → listed_by entries number ≡ Some r → listed_by old.state.entries number ≡ Some r
is_kept old lent is entries are number r said = sym (ap (λ (es : List Entry). listed_by es number) (are ∙ ap (λ (e : Engine). e.state.entries) is)) ∙ said

-- slices that get one replica or more are no more than the places
pub few_listed : (slices count : ℕ) → 1 ≤ count → slices * count ≤ 50 → slices ≤ 50
few_listed slices count some few =
    let rows : slices * 1 ≤ slices * count = mul-le-mul_left slices some in
    let one : slices * 1 ≡ slices = mul-one slices in
    omega (arith, rows, one, few)
