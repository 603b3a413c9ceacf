-- What is answered by a look at all drives of a site.
use Rattle.std.proofs.Common.{◌≡◌, ◌≢◌, inl, inr, ◌+◌, ◌*◌, ◌≤◌, true, false, List, [], ◌∷◌, ◌++◌, length, Contains, Option, None, Some, Result, Ok, Err, sym, ◌∙◌, subst, arith}
use Rattle.std.specs.Prelude.{MatchOption, count_by}
use Rattle.std.proofs.Math.Nat.{mul-le-mul_left}
use Rattle.std.proofs.lemmas.List.Elements.{Contains-append_left, Contains-push, Contains-push_cases}
use Rattle.mdv_survey.specs.Choice.{IsEnough}
use Rattle.mdv_survey.specs.Counts.{MadeFew}
use Rattle.mdv_survey.specs.declared.choosing.Choice.TheVariants as chosen
use Rattle.mdv_survey.specs.declared.replica.Newest.{Newest}
use Rattle.mdv_survey.specs.declared.replica.Survey.{Survey}
use Rattle.mdv_look.specs.Below.{DriveNo, Drives, Geometry, Ghosts, Site, has_drive}
use Rattle.mdv_look.specs.Looking.{AreAllCalm, IsLookCounted, IsLookedAt, most_reads, reads_by}
use Rattle.mdv_look.specs.Peeking.{AreAllOf, IsPeekBy, IsPeeked, WasChosen, WasWanting}
use Rattle.mdv_look.specs.declared.looking.Looked.{Looked}
use Rattle.mdv_look.specs.declared.peeking.Peeked.{Peeked}
use Rattle.mdv_look.proofs.Bringing.{is_drive}
use Rattle.mdv_look.proofs.Few.{few_wider}
use Rattle.mdv_look.proofs.Looks.{count_length}

pub all_none : (set : Drives) → ((drive : DriveNo) → has_drive set drive ≡ false) → AreAllOf [] set
all_none set none = record { each = λ drive one_of. absurd (omega (arith, one_of.1)); only = λ drive so. absurd (cc (so, none drive)) }

-- one drive more
pub all_more : (drives : List DriveNo) (drive : DriveNo) (set later : Drives) → AreAllOf drives set → has_drive later drive ≡ true → ((other : DriveNo) → other ≢ drive → has_drive later other ≡ has_drive set other) → AreAllOf (drives ++ drive ∷ []) later
all_more drives drive set later are added others = record {
  each = λ other one_of. elim (is_drive other drive) [
    | inl e ↦ subst (λ (d : DriveNo). has_drive later d ≡ true) (sym e) added
    | inr apart ↦ others other apart ∙ elim (Contains-push_cases drives drive other one_of) [ inl before ↦ are.each other before | inr e ↦ absurd (apart (sym e)) ]
  ];
  only = λ other so. elim (is_drive other drive) [
    | inl e ↦ subst (Contains (drives ++ drive ∷ [])) (sym e) (Contains-push drives drive)
    | inr apart ↦ Contains-append_left drives (drive ∷ []) other (are.only other (sym (others other apart) ∙ so))
  ];
}

-- where a newest table is chosen there is one
pub has_newest : (survey : Survey) → WasChosen survey → survey.newest ≡ None → ⊥
has_newest survey was none = by survey.newest none was.1 where
  by : (o : Option Newest) → o ≡ None → MatchOption o (chosen.Newest was.0 ≡ chosen.Empty) (λ newest. IsEnough survey.replicas newest was.0) → ⊥
  by None is so = cc (so)
  by (Some newest) is so = cc (is)

module _ {S : Type 0} (shelf : Ghosts S) (old new : S) (g : Geometry) (site : Site) (all : Drives) (are : AreAllOf site.drives all) where
  few_of : {E : Type 0} (result : Result Looked E) → IsLookCounted shelf old new g site all result → MadeFew shelf old new (most_reads site)
  few_of result counted =
      let few = count_length (has_drive all) site.drives in
      let larger : 1 + count_by (has_drive all) site.drives ≤ 1 + length site.drives = omega (arith, few) in
      let product = mul-le-mul_left (765 * length site.lines) larger in
      few_wider shelf old new ((1 + count_by (has_drive all) site.drives) * (765 * length site.lines)) (most_reads site) (omega (arith, product)) counted.few

  pub peeked : {E : Type 0} (looked : Looked) (peek : Peeked) → IsLookedAt shelf old new g site all looked → IsLookCounted {E = E} shelf old new g site all (Ok looked) → IsPeekBy looked.survey peek.answer → peek.calm ≡ looked.calm → IsPeeked shelf old new g site peek
  peeked looked peek at counted by calm = record {
    all = all;
    are = are;
    few = few_of (Ok looked) counted;
    ended = inr (record {
      survey = looked.survey;
      at = subst (λ (d : Drives). IsLookedAt shelf old new g site all (record { survey = looked.survey; calm = d })) (sym calm) at;
      by = by;
      some = subst (λ (d : Drives). MadeFew shelf old new (reads_by site all d)) (sym calm) counted.some;
      once = λ answered. counted.once (subst (AreAllCalm site all) calm answered);
    });
  }

  pub unpeeked : {E : Type 0} (fault : E) (peek : Peeked) → IsLookCounted shelf old new g site all (Err fault) → WasWanting peek → IsPeeked shelf old new g site peek
  unpeeked fault peek counted wanting = record { all = all; are = are; few = few_of (Err fault) counted; ended = inl wanting }
