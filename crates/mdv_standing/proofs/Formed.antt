-- The replicas that a creation formatted, while it formats others.
use Rattle.std.proofs.Common.{inl, inr, ⊎_elim, ℕ, ◌+◌, ◌*◌, ◌<◌, List, sym, subst, arith}
use Rattle.std.proofs.lemmas.Bool.{cases_eq}
use Rattle.mdv_replica.specs.Images.{SameOutside, Wipes}
use Rattle.mdv_shelf.specs.Area.{AreApart}
use Rattle.mdv_shelf.proofs.Frame.{before_range}
use Rattle.mdv_shown.specs.Site.{line_area}
use Rattle.mdv_shown.proofs.Elsewhere.{found_kept, places_step}
use Rattle.mdv_standing.specs.Below.{Everywhere, Head, Identity, Image, IsInChain, IsOwn, IsSite, Master, MayFormat, MayWipe, Site, SliceLine, Table, Tale, place_on}
use Rattle.mdv_standing.specs.Forming.{IsBehind}
use Rattle.mdv_standing.proofs.Blanking.{format_outside}
use Rattle.mdv_standing.proofs.Within.{line_still}

module _ (Spells : List ℕ → Table → Type 0) (site : Site) (identity : Identity) (line : SliceLine) (first : Master) (head : Head) where
  pub behind_own : (t : Tale) (k : ℕ) → IsSite site → Everywhere (λ image. IsOwn Spells site identity line k image first head) t → IsBehind Spells site t line (k + 1) first
  behind_own t k is own = record {
    later = omega arith;
    has = λ image at. (let f = (own image at).found in record { site_is = is; one_of = f.one_of; located = f.located });
    chain = λ image at j lt.
        let f = (own image at).found in
        elim (cases_eq j k) [
          | inl e ↦ (head, subst (λ (i : ℕ). IsInChain Spells site line i (image line.at.drive.0) first head) (sym e) f.here)
          | inr other ↦ f.before j (omega (arith, lt, other))
        ];
  }

  module _ (j : ℕ) (old new : Image) (own : IsOwn Spells site identity line j old first head) where
    -- a place behind it is formatted
    pub own_formatting : (k number : ℕ) (master : Master) → j < k → MayFormat (place_on line first.blocks first.count k) master number old new → IsOwn Spells site identity line j new first head
    own_formatting k number master lt change = record {
      found = found_kept Spells site line (old line.at.drive.0) (new line.at.drive.0) first j head
          (λ block from to.
          format_outside line first.blocks first.count k number master old new change line.at.drive.0 block
          (before_range line.at.drive.0 (line.at.start + (16 + k * first.blocks)) 4 block (let step = places_step j k first.blocks lt in omega (arith, to, step)))) own.found;
      of_identity = own.of_identity;
    }

    -- a place behind it is blanked
    pub own_wiping : (k : ℕ) → j < k → MayWipe (place_on line first.blocks first.count k) old new → IsOwn Spells site identity line j new first head
    own_wiping k lt change = record {
      found = found_kept Spells site line (old line.at.drive.0) (new line.at.drive.0) first j head
          (λ block from to.
          ⊎_elim (λ same. same line.at.drive.0 block) (λ (wipes : Wipes (place_on line first.blocks first.count k) old new). wipes.elsewhere line.at.drive.0 block
          (before_range line.at.drive.0 (line.at.start + (16 + k * first.blocks)) 1 block (let step = places_step j k first.blocks lt in omega (arith, to, step)))) change) own.found;
      of_identity = own.of_identity;
    }

    -- something is done on another slice
    pub own_beside : (other : SliceLine) → AreApart (line_area other) (line_area line) → SameOutside (line_area other) old new → IsOwn Spells site identity line j new first head
    own_beside other apart outside = record {
      found = found_kept Spells site line (old line.at.drive.0) (new line.at.drive.0) first j head
          (λ block from to. line_still other line apart old new outside block (omega (arith, from)) (let fits = own.found.within in omega (arith, to, fits))) own.found;
      of_identity = own.of_identity;
    }
