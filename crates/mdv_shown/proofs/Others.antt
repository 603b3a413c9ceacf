-- What an image shows of one database where another's replica was claimed or written.
use Rattle.std.proofs.Common.{◌≡◌, inl, inr, ⊎_elim, ℕ, ◌+◌, ◌<◌, ◌≤◌, ◌^◌, refl, sym, ◌∙◌, ap, subst, List}
use Rattle.mdv_shown.specs.Below.{Identity, Mark, SliceLine, IsReadable, IsTable, Master, Head, PlaceAt, Slot, with_blocks}
use Rattle.mdv_shown.specs.Below.{MayClaim, MayFill, untouched, closed, filled, Image, Core, place_at, SpotState, Version}
use Rattle.mdv_replica.proofs.Heads.{one_head}
use Rattle.mdv_replica.proofs.Showing.{own_place}
use Rattle.mdv_shown.specs.Site.{Site, size_on, place_on, spot_on}
use Rattle.mdv_shown.specs.Found.{Counts, IsOwn}
use Rattle.mdv_shown.specs.Shown.{ShowsPlaces, Shows}
use Rattle.mdv_shown.specs.Laws.{Reads}
use Rattle.mdv_shown.specs.Others.{IsOther, OthersGo}
use Rattle.mdv_shown.proofs.Elsewhere.{IsThere, there_of, elsewhere}
use Rattle.mdv_shown.proofs.Rewritten.{place_same}
use Rattle.mdv_shown.proofs.Framed.{shows_same}
use Rattle.mdv_shown.proofs.Kept.{IsRewrite, claim_rewrites, closed_rewrites, filled_rewrites, located_new, there_new}

module _ {Table : Type 0} (Spells : List ℕ → Table → Type 0) (site : Site) (identity : Identity) (L : SliceLine) (K : ℕ) (F : Master) (head : Head) (old new : Image)
    (is : IsOther Spells site identity old L K F head) where
  abbrev at : PlaceAt
  at = place_on L F.blocks F.count K

  there : IsThere Spells site L K (old L.at.drive.0) F head
  there = there_of Spells site head.master.key L K (old L.at.drive.0) F head is.found

  least : 16 ≤ F.blocks
  least = is.found.located.lies.least

  sized : at ≡ with_blocks at head.master.blocks
  sized = own_place at head.master.blocks is.found.here.length

  -- it isn't of this database, whatever its claim and slots
  not_own : (image : Image) (h n : Head) → IsReadable (Counts Spells) at (size_on site L) (image L.at.drive.0) h → h.master ≡ head.master → IsOwn Spells site identity L K image F n → ⊥
  not_own image h n readable master own =
      let c = image L.at.drive.0 in
      let same : n ≡ h = one_head at (size_on site L) (c at.first) (c (at.first + 1)) (c (at.first + 2)) (c (at.first + 3)) n h own.found.here.readable.of_head readable.of_head in
      let to : n.master ≡ head.master = ap (λ (x : Head). x.master) same ∙ master in
      is.other (sym (ap (λ (m : Master). m.key) to) ∙ own.found.of_key) (sym (ap (λ (m : Master). m.identity) to) ∙ own.of_identity)

  -- the same for what is found at its number
  not_there : (image : Image) (h : Head) → IsReadable (Counts Spells) at (size_on site L) (image L.at.drive.0) h → h.master ≡ head.master
      → (line : SliceLine) (k : ℕ) (first : Master) (n : Head) → (line ≡ L) × (k ≡ K) × (first ≡ F) → IsOwn Spells site identity line k image first n → ⊥
  not_there image h readable master line k first n e own =
      not_own image h n readable master
      (subst (λ (m : Master). IsOwn Spells site identity L K image m n) e.2
      (subst (λ (i : ℕ). IsOwn Spells site identity L i image first n) e.1
      (subst (λ (l : SliceLine). IsOwn Spells site identity l k image first n) e.0 own)))

  module _ (r : IsRewrite Spells site L K F head old new is.found) where
    pub others_show : (tables : ℕ → Table) (family : List Version) (places : List SpotState) → ShowsPlaces Spells site identity tables family places old → ShowsPlaces Spells site identity tables family places new
    others_show tables family places shows = record {
      each = λ line k first h own. elim (elsewhere Spells site is.site_is new old L K F head there (λ drive block out. sym (r.behind drive block out)) (located_new Spells site L K F head old new is.found r) line k first h own.found) [
        | inl e ↦ absurd (not_there new r.next r.now r.master line k first h e own)
        | inr kept ↦
            place_same Spells tables family (place_on line first.blocks first.count k) (old line.at.drive.0) (new line.at.drive.0) h (place_at places (spot_on line first.blocks k)) own.found.located.lies.least
            (λ block from to. sym (kept.same block from to))
            (shows.each line k first h (record { found = kept.found; of_identity = own.of_identity }))
      ];
      only = λ q kind holds.
          let was = shows.only q kind holds in
          elim (elsewhere Spells site is.site_is old new L K F r.next (there_new Spells site L K F head old new is.found r) r.behind there.located was.line was.number was.first was.head was.own.found) [
            | inl e ↦ absurd (not_there old head there.here.readable refl was.line was.number was.first was.head e was.own)
            | inr kept ↦ record {
              line = was.line;
              number = was.number;
              first = was.first;
              head = was.head;
              own = record { found = kept.found; of_identity = was.own.of_identity };
              spot = was.spot;
            }
          ];
      seats = shows.seats;
    }

  pub other_claims : (tables : ℕ → Table) (w : Core) (number : ℕ) → number < 2 ^ 63 → Shows Spells site identity tables w old → MayClaim at number old new → Shows Spells site identity tables w new
  other_claims tables w number small shows change = ⊎_elim
      (λ same. shows_same Spells site identity tables w.family w.places old new same shows)
      (λ claims. others_show (claim_rewrites Spells site L K F head old new is.found number small claims) tables w.family w.places shows)
      change

  pub other_slots : (tables : ℕ → Table) (w : Core) (slot : Slot) (mark : Mark) (bytes : ℕ) (body : List (List ℕ)) → IsTable (Counts Spells) at mark bytes body → Shows Spells site identity tables w old
      → MayFill at slot mark bytes body old new → Shows Spells site identity tables w new
  other_slots tables w slot mark bytes body table shows (untouched same) = shows_same Spells site identity tables w.family w.places old new same shows
  other_slots tables w slot mark bytes body table shows (closed others shut) = others_show (closed_rewrites Spells site L K F head old new is.found slot mark bytes body table others shut) tables w.family w.places shows
  other_slots tables w slot mark bytes body table shows (filled fills) = others_show (filled_rewrites Spells site L K F head old new is.found slot mark bytes body table fills) tables w.family w.places shows

pub law_others : (T : Type 0) → OthersGo T
law_others T = record {
  claims = λ read site identity tables w old new line k first head number is small shows change. other_claims (Reads read) site identity line k first head old new is tables w number small shows change;
  slots = λ read site identity tables w old new line k first head slot mark bytes body is table shows change.
      other_slots (Reads read) site identity line k first head old new is tables w slot mark bytes body table shows change;
}
