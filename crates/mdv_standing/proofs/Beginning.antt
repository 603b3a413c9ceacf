-- A table begins to be written: it joins the family of a world and the log.
use Rattle.std.proofs.Common.{◌≡◌, inl, ℕ, ◌+◌, ◌-◌, ◌<◌, Bool, true, false, List, [], ◌∷◌, length, sym, ◌∙◌, ap, subst, Contains, None, Option, arith}
use Rattle.std.proofs.lemmas.Bool.{false≢true}
use Rattle.mdv_quorum.specs.May.{may}
use Rattle.mdv_quorum.specs.Standing.{ArePlaced}
use Rattle.mdv_quorum.specs.World.{happens, settled, with_table}
use Rattle.mdv_shown.proofs.Worlds.{begun_shows}
use Rattle.mdv_config.specs.Lists.{places_of}
use Rattle.mdv_standing.specs.Below.{Core, FamilyTable, Identity, Image, LeftClosed, Lives, Log, Place, Shows, Site, Slotted, Spot, Table, Version, Writing, is_in, is_written, last_list, last_table, table_at}
use Rattle.mdv_standing.specs.Listed.{HasPlace, HavePlaces}
use Rattle.mdv_standing.specs.Matching.{IsVersionAt, Matches, tables_of}
use Rattle.mdv_standing.specs.Worlds.{IsTaking, IsWorld}
use Rattle.mdv_standing.proofs.Listed.{places_more}
use Rattle.mdv_standing.proofs.Versions.{version_older}
use Rattle.mdv_standing.proofs.Reaching.{reached_more, standing, tables_agree}
use Rattle.mdv_standing.proofs.Following.{Follows, GoesOn, longer_family, matches_follow, matches_longer, settled_family, settled_follows, settled_stage, table_newest, table_older}

pub none_in : (p : Spot) → is_in [] p ≡ true → ⊥
none_in p e = false≢true e

-- the world with this table in the family, which no place has
abbrev pub with_begun : Core → FamilyTable → Option ℕ → Core
with_begun w next boot = record (with_table w next) { stage = Writing boot [] }

abbrev pub first_write : Core → Core
first_write u = settled u (last_table u) (is_written (last_table u) (is_in []))

-- that is what a slot left closed makes of it
abbrev pub LeadsBy : Core → FamilyTable → Option ℕ → Spot → Type 0
LeadsBy w next boot p = happens w (Slotted p LeftClosed) ≡ first_write (with_begun w next boot)

module _ (Spells : List ℕ → Table → Type 0) (site : Site) (identity : Identity) (log : Log) (w : Core) (image : Image) (world : IsWorld Spells site identity log w image) (next : FamilyTable) (v : Version)
    (is : IsVersionAt site world.matches.book w.changes next v) (unanswered : v.is_written ≡ false) (goes_on : GoesOn site log w v) (there : w.deleted ≡ None) (p : Spot) (boot : Option ℕ) (leads : LeadsBy w next boot p)
    (fits : may w (Slotted p LeftClosed) ≡ true) where
  abbrev written : Log
  written = record log { family = v ∷ log.family; fate = Lives }

  abbrev begun : Core
  begun = with_begun w next boot

  begun_matches : Matches site written begun
  begun_matches =
      let m = matches_longer site log w next v world.matches is unanswered goes_on there in
      record { kind = m.kind; book = m.book; as_many = m.as_many; each = m.each; answered = m.answered; dropped = m.dropped; steady = m.steady; reused = m.reused; there = m.there; gone = m.gone }

  begun_long : length begun.family ≡ length w.family + 1
  begun_long = longer_family site log w next v world.matches is unanswered

  last_is : last_table begun ≡ next
  last_is = table_newest site log w next v world.matches is unanswered (length begun.family - 1) (omega (arith, begun_long))

  begun_placed : ArePlaced begun
  begun_placed q e =
      let s = standing site w world.reached in
      let at = s.placed q e in
      (at.0, at.1, ap (λ (t : FamilyTable). is_in (last_list t.lists) q) (table_older site log w next v world.matches is unanswered at.0 (s.descent.known at.0 at.1)) ∙ at.2)

  begun_follows : Follows site written begun (first_write begun)
  begun_follows =
      settled_follows site written begun begun_matches (omega (arith, begun_long))
      (λ f e. omega (arith, begun_long, (standing site w world.reached).descent.known f e)) begun_placed (is_written (last_table begun) (is_in []))

  begun_image : Shows Spells site identity (tables_of written.family) (happens w (Slotted p LeftClosed)) image
  begun_image =
      let f = (standing site w world.reached).family in
      begun_shows Spells site identity (tables_of written.family) image w p f
      (tables_agree Spells site identity (tables_of log.family) (tables_of written.family) w image f
      (λ i lt. ap (λ (x : Version). x.table) (sym (version_older v log.family i (subst (λ (n : ℕ). i < n) world.matches.as_many lt)))) world.shows)

  pub begun_world : HavePlaces Spells site identity log image → ((place : Place) → Contains (places_of v.table.plan.lists) place → HasPlace Spells site identity image place) → IsWorld Spells site identity written (happens w (Slotted p LeftClosed)) image
  begun_world have its = record {
    reached = reached_more site w (Slotted p LeftClosed ∷ []) world.reached (fits, tt);
    matches = subst (Matches site written) (sym leads) (matches_follow site written begun (first_write begun) begun_follows begun_matches);
    shows = begun_image;
    listed = inl (places_more Spells site identity log image v have its);
  }

  pub begun_taking : (by_majority : Bool) → next.by_majority ≡ by_majority → IsTaking by_majority v.mark [] (happens w (Slotted p LeftClosed))
  begun_taking by_majority kind =
      let b = is_written (last_table begun) (is_in []) in
      let last : last_table (first_write begun) ≡ next = ap (λ (l : List FamilyTable). table_at l (length l - 1)) (settled_family begun (last_table begun) b) ∙ last_is in
      subst (IsTaking by_majority v.mark []) (sym leads) (record {
        boot = boot;
        all = [];
        stage = settled_stage begun (last_table begun) b;
        marked = ap (λ (t : FamilyTable). t.mark) last ∙ is.mark;
        kind = ap (λ (t : FamilyTable). t.by_majority) last ∙ kind;
        within = λ q e. e;
        taken = λ q e. absurd (none_in q e);
      })
