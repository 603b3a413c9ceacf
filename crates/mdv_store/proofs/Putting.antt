-- Places are formatted for a database, one behind another: the replicas that are put there, and what shows no table, whatever else lies on the drives.
use Rattle.std.proofs.Common.{◌≡◌, ◌⊎◌, inl, inr, ℕ, ◌+◌, ◌*◌, ◌<◌, ◌≤◌, true, List, Contains, sym, subst, arith}
use Rattle.mdv_replica.specs.Form.{formatted_head}
use Rattle.mdv_replica.specs.Images.{Formats, MayFormat}
use Rattle.mdv_replica.specs.Replica.{formatted_blocks}
use Rattle.mdv_replica.specs.declared.forms.Master.{Master}
use Rattle.mdv_replica.proofs.Leaving.{leaves_formatting, leaves_settled}
use Rattle.mdv_shelf.specs.Area.{AreApart}
use Rattle.mdv_shelf.specs.Everywhere.{Leaves}
use Rattle.mdv_shown.specs.Formats.{IsFormat, master_on}
use Rattle.mdv_shown.specs.Site.{line_area}
use Rattle.mdv_shown.proofs.Formatting.{own_first, own_later}
use Rattle.mdv_standing.specs.Blanking.{AreBlank, IsFormatOn}
use Rattle.mdv_standing.specs.Forming.{IsBehind}
use Rattle.mdv_standing.proofs.Blanking.{blank_beside, blank_formatting, first_unshown, later_unshown}
use Rattle.mdv_standing.proofs.Formed.{behind_own, own_beside, own_formatting}
use Rattle.mdv_standing.proofs.Within.{format_within}
use Rattle.mdv_acts.specs.Acts.{IsDoing, IsDone, form_on}
use Rattle.mdv_store.specs.Below.{Everywhere, Geometry, Head, Identity, Image, IsOwn, IsSound, Key, PlaceAt, Site, SliceLine, Spot, Tale, is_named, lists_of_spots, place_on, site_of, spot_on}
use Rattle.mdv_store.specs.Create.{seats_asked, table_of}
use Rattle.mdv_store.specs.Records.{Spells}
use Rattle.mdv_store.specs.declared.seats.Seat.{Seat}
use Rattle.mdv_plan.specs.declared.lists.Lists.{Lists}
use Rattle.mdv_votes.specs.declared.spot.SpotLists.{SpotLists}
use Rattle.mdv_store.proofs.Bare.{bare_blank, first_bare, later_bare}
use Rattle.mdv_store.proofs.Blanks.{StayDark, still_dark}
use Rattle.mdv_store.proofs.Locating.{first_of}
use Rattle.mdv_store.proofs.Places.{AreNow, AreThose, GoesOn, IsNext, OfPlaces}

module _ (g : Geometry) (key : Key) (identity : Identity) (lines : List SliceLine) (count blocks : ℕ) where
  abbrev pub site : Site
  site = site_of g key

  abbrev pub seats : List Seat
  seats = seats_asked key identity lines count blocks

  abbrev pub lists : Lists
  lists = (table_of seats).plan.lists

  abbrev pub named : SpotLists
  named = lists_of_spots site lists

  abbrev pub first_on : SliceLine → Master
  first_on line = master_on site identity line blocks count 0

  -- with the claim under which they are formatted
  module _ (claim : ℕ) where
    abbrev pub head_on : SliceLine → ℕ → Head
    head_on line j = formatted_head (place_on line blocks count j) key identity claim

    abbrev pub OwnAt : SliceLine → ℕ → Tale → Type 0
    OwnAt line j = Everywhere (λ image. IsOwn (Spells g) site identity line j image (first_on line) (head_on line j))

    abbrev pub FormatAt : SliceLine → ℕ → Tale → Type 0
    FormatAt line k = Everywhere (λ image. IsFormat site identity image line blocks count k claim)

    -- what is known of all that is asked
    pub record IsGiven : Type 0 where
      pub sound : IsSound g
      pub least : 16 ≤ blocks
      pub format : (line : SliceLine) (k : ℕ) → Contains lines line → k < count → IsFormatOn site identity line blocks count k claim
      pub names : (line : SliceLine) (k : ℕ) → Contains lines line → k < count → is_named named (spot_on line blocks k) ≡ true

    -- these places have their replicas, and the masters behind these numbers are blank
    pub record ArePut (t : Tale) (Done Blank : OfPlaces) (u : Tale) : Type 0 where
      pub dark : StayDark g key identity t u
      pub own : (line : SliceLine) (j : ℕ) → Done line j → OwnAt line j u
      pub blank : (line : SliceLine) (from : ℕ) → Blank line from → Everywhere (AreBlank line blocks from count) u

    pub put_recast : (t : Tale) (Done Blank Other Less : OfPlaces) (u : Tale) → AreThose Done Blank Other Less → ArePut t Done Blank u → ArePut t Other Less u
    put_recast t Done Blank Other Less u those s = record {
      dark = s.dark;
      own = λ line j is. s.own line j (those.back line j is);
      blank = λ line from is. s.blank line from (those.less line from is);
    }

    module _ (given : IsGiven) where
      -- One place is formatted.
      module _ (line : SliceLine) (k : ℕ) where
        abbrev at : PlaceAt
        at = place_on line blocks count k

        abbrev master : Master
        master = master_on site identity line blocks count k

        -- what it leads to
        record IsPutting (u : Tale) : Type 0 where
          darks : (m : Tale) → Leaves (MayFormat at master claim) u m → StayDark g key identity u m
          owns : (m : Tale) → Leaves (Formats at master claim) u m → OwnAt line k m

      -- the first place of a slice, whatever first master it has
      first_put : (line : SliceLine) (u : Tale) → FormatAt line 0 u → IsPutting line 0 u
      first_put line u format = record {
        darks = λ m leaves. record {
          others = λ ask other another blank image is.
              let from = leaves image is in
              let before = first_of site from.0 line in
              first_unshown (Spells g) g given.sound key identity line from.0 image blocks count claim before.0 (format from.0 from.1) before.1 from.2 ask other another (blank from.0 from.1);
          own = λ blank image is.
              let from = leaves image is in
              let before = first_of site from.0 line in
              bare_blank (Spells g) site identity line from.0 image (first_bare (Spells g) site identity line from.0 image blocks count claim before.0 (format from.0 from.1) before.1 from.2) identity (blank from.0 from.1);
        };
        owns = λ m leaves image is.
            let from = leaves image is in
            let before = first_of site from.0 line in
            own_first (Spells g) site identity line blocks count claim before.0 from.0 image (format from.0 from.1) before.1 from.2;
      }

      -- a later one
      later_put : (line : SliceLine) (k : ℕ) (u : Tale) → FormatAt line k u → IsBehind (Spells g) site u line k (first_on line) → IsPutting line k u
      later_put line k u format behind = record {
        darks = λ m leaves. record {
          others = λ ask other another blank image is.
              let from = leaves image is in
              later_unshown (Spells g) g given.sound key identity line from.0 image k claim (first_on line) behind.later (format from.0 from.1) (behind.has from.0 from.1) from.2 ask other another (blank from.0 from.1);
          own = λ blank image is.
              let from = leaves image is in
              bare_blank (Spells g) site identity line from.0 image (later_bare (Spells g) site identity line from.0 image k claim (first_on line) behind.later (format from.0 from.1) (behind.has from.0 from.1) from.2) identity (blank from.0 from.1);
        };
        owns = λ m leaves image is.
            let from = leaves image is in
            own_later (Spells g) site identity line k claim (first_on line) from.0 image behind.later (format from.0 from.1) (behind.has from.0 from.1) from.2 (behind.chain from.0 from.1);
      }

      module _ (t : Tale) (Done Blank : OfPlaces) (u : Tale) (line : SliceLine) (k : ℕ) (next : IsNext lines count Done Blank line k) (s : ArePut t Done Blank u) where
        abbrev f : IsFormatOn site identity line blocks count k claim
        f = given.format line k next.among next.lt

        pub format_here : FormatAt line k u
        format_here image is = record {
          site_is = f.site_is;
          one_of = f.one_of;
          within = f.within;
          numbered = f.numbered;
          form = f.form;
          lies = f.lies;
          small = f.small;
          behind = λ j up below fits. s.blank line (k + 1) next.blank image is j (omega (arith, up)) below fits;
        }

        pub behind_here : (j : ℕ) → k ≡ j + 1 → Done line j → IsBehind (Spells g) site u line k (first_on line)
        behind_here j is done = subst (λ (i : ℕ). IsBehind (Spells g) site u line i (first_on line)) (sym is) (behind_own (Spells g) site identity line (first_on line) (head_on line j) u j f.site_is (s.own line j done))

        put_of : (k ≡ 0) ⊎ ((j : ℕ) × (k ≡ j + 1) × Done line j) → IsPutting line k u
        put_of (inl none) = subst (λ (i : ℕ). IsPutting line i u) (sym none) (first_put line u (subst (λ (i : ℕ). FormatAt line i u) none format_here))
        put_of (inr (j, is, done)) = later_put line k u format_here (behind_here j is done)

        abbrev put : IsPutting line k u
        put = put_of next.front

        leaving : (m : Tale) → IsDoing (form_on key identity claim line count blocks k) u m → Leaves (MayFormat (at line k) (master line k) claim) u m
        leaving m formatting = leaves_formatting (at line k) (master line k) claim u m formatting

        pub one_putting : (m : Tale) → IsDoing (form_on key identity claim line count blocks k) u m → StayDark g key identity t m
        one_putting m formatting = still_dark g key identity t u m s.dark (put.darks m (leaving m formatting))

        kept_own : (v : Tale) → Leaves (MayFormat (at line k) (master line k) claim) u v → (other : SliceLine) (j : ℕ) → Done other j → OwnAt other j v
        kept_own v leaves other j old image is =
            let was = leaves image is in
            elim (next.beside other j old) [
              | inl same ↦
                  let own = subst (λ (l : SliceLine). OwnAt l j u) same.0 (s.own other j old) in
                  subst (λ (l : SliceLine). IsOwn (Spells g) site identity l j image (first_on l) (head_on l j)) (sym same.0)
                  (own_formatting (Spells g) site identity line (first_on line) (head_on line j) j was.0 image (own was.0 was.1) k claim (master line k) same.1 was.2)
              | inr apart ↦ own_beside (Spells g) site identity other (first_on other) (head_on other j) j was.0 image (s.own other j old was.0 was.1) line apart (format_within line k blocks count was.0 image f.within f.lies.least (master line k) claim was.2)
            ]

        still_blank : (other : SliceLine) (from : ℕ) (old new : Image) → MayFormat (at line k) (master line k) claim old new → ((other ≡ line) × (k < from)) ⊎ AreApart (line_area line) (line_area other)
            → AreBlank other blocks from count old → AreBlank other blocks from count new
        still_blank other from old new change (inl same) blank =
            subst (λ (l : SliceLine). AreBlank l blocks from count new) (sym same.0)
            (blank_formatting line blocks from count old new k claim (master line k) given.least same.1 change (subst (λ (l : SliceLine). AreBlank l blocks from count old) same.0 blank))
        still_blank other from old new change (inr apart) blank =
            blank_beside line other apart old new (format_within line k blocks count old new f.within f.lies.least (master line k) claim change) blocks from count given.least blank

        module _ (Next Less : OfPlaces) (now : AreNow Done Blank line k Next Less) where
          pub one_put : (v : Tale) → IsDone (form_on key identity claim line count blocks k) u v → ArePut t Next Less v
          one_put v is =
              let leaves = leaving v is.0 in
              let formats = leaves_settled line.at.drive.0 (line.at.start + (16 + k * blocks)) (formatted_blocks (master line k) claim) u v is.0.outside is.1 in
              record {
                dark = one_putting v is.0;
                own = λ other j its. elim (now.back other j its) [
                  | inl old ↦ kept_own v leaves other j old
                  | inr new ↦ subst (λ (l : SliceLine). OwnAt l j v) (sym new.0) (subst (λ (i : ℕ). OwnAt line i v) (sym new.1) (put.owns v formats))
                ];
                blank = λ other from its image at_v. (let was = leaves image at_v in let b = now.less other from its in still_blank other from was.0 image was.2 b.1 (s.blank other from b.0 was.0 was.1));
              }

      -- So it goes on with each place.
      abbrev pub Puts : Tale → OfPlaces → OfPlaces → List Spot → List Spot → Tale → Type 0
      Puts t Done Blank part due u = ArePut t Done Blank u

      pub put_steps : (t : Tale) → GoesOn key identity lines count blocks claim (Puts t) (StayDark g key identity t)
      put_steps t = record {
        recast = λ Done Blank Other Less part due u those s. put_recast t Done Blank Other Less u those s;
        here = λ Done Blank part due u s. s.dark;
        forming = λ Done Blank part due u line k next s. one_putting t Done Blank u line k next s;
        formed = λ Done Blank Next Less part due u line k next now s. one_put t Done Blank u line k next s Next Less now;
      }
