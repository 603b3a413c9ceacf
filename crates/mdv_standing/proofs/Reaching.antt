-- Worlds that events lead to, and images that show them.
use Rattle.std.proofs.Common.{◌≡◌, inl, inr, ℕ, ◌<◌, List, ◌++◌, length, refl, sym, ◌∙◌, ap, subst, Option, None, Some, arith}
use Rattle.std.proofs.lemmas.Bool.{cases_lt}
use Rattle.mdv_quorum.specs.May.{MayAll}
use Rattle.mdv_quorum.specs.Standing.{IsFamily, Standing}
use Rattle.mdv_quorum.proofs.Events.{after_both, may_both}
use Rattle.mdv_quorum.proofs.Stands.{stands_always}
use Rattle.mdv_shown.specs.Shown.{IsNewestOf, NewestIs}
use Rattle.mdv_shown.proofs.Slots.{never_below}
use Rattle.mdv_standing.specs.Below.{IsBelow, Identity, Mark, Head, Image, Core, after_all, start, Event, Table, Site, SliceLine, Master, place_on, spot_on, place_at, Shows, table_at}
use Rattle.mdv_standing.specs.Matching.{Reached, is_set}

pub reached_more : (site : Site) (w : Core) (es : List Event) → Reached site w → MayAll w es → Reached site (after_all w es)
reached_more site w es r fits =
    let from = start (is_set site.key) in
    (r.0 ++ es, may_both from r.0 es r.1 (subst (λ (x : Core). MayAll x es) (sym r.2) fits), after_both from r.0 es ∙ ap (λ (x : Core). after_all x es) r.2)

pub standing : (site : Site) (w : Core) → Reached site w → Standing w
standing site w r = subst (λ (x : Core). Standing x) r.2 (stands_always (is_set site.key) r.0 r.1)

-- a mark is that of one table of the family
pub same_number : (w : Core) → IsFamily w → (i j : ℕ) → i < length w.family → j < length w.family → (table_at w.family i).mark ≡ (table_at w.family j).mark → i ≡ j
same_number w f i j known also same =
    elim (cases_lt i j) [
      | inl less ↦ absurd (itself (table_at w.family j).mark (subst (λ (m : Mark). IsBelow m (table_at w.family j).mark) same (f.marks i j less also)))
      | inr up ↦ elim (cases_lt j i) [
        | inl less ↦ absurd (itself (table_at w.family j).mark (subst (λ (m : Mark). IsBelow (table_at w.family j).mark m) same (f.marks j i less known)))
        | inr down ↦ omega (arith, up, down)
      ]
    ]
  where
    itself : (m : Mark) → IsBelow m m → ⊥
    itself m h = never_below m m h h

-- what an image shows says of the tables of the family alone
pub tables_agree : (Spells : List ℕ → Table → Type 0) (site : Site) (identity : Identity) (tables others : ℕ → Table) (w : Core) (image : Image) → IsFamily w
    → ((i : ℕ) → i < length w.family → tables i ≡ others i) → Shows Spells site identity tables w image → Shows Spells site identity others w image
tables_agree Spells site identity tables others w image f same shows = record {
  each = λ line k first head own.
      let was = shows.each line k first head own in
      let p = spot_on line first.blocks k in
      record { holds = was.holds; claim = was.claim; newest = newest line k first head (place_at w.places p).newest (λ i e. f.shown p i e) was.newest };
  only = shows.only;
  seats = shows.seats;
}
  where
    newest : (line : SliceLine) (k : ℕ) (first : Master) (head : Head) (o : Option ℕ) → ((i : ℕ) → o ≡ Some i → i < length w.family)
        → NewestIs Spells tables w.family (place_on line first.blocks first.count k) (image line.at.drive.0) head o → NewestIs Spells others w.family (place_on line first.blocks first.count k) (image line.at.drive.0) head o
    newest line k first head None known none = none
    newest line k first head (Some i) known n = record {
      slot = n.slot;
      is = subst (λ (t : Table). IsNewestOf Spells (place_on line first.blocks first.count k) (image line.at.drive.0) head n.slot (table_at w.family i).mark t) (same i (known i refl)) n.is;
    }
