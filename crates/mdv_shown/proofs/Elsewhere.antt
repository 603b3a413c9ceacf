-- What is found where the blocks of one replica behind its master changed.
use Rattle.std.proofs.Common.{◌≡◌, ◌⊎◌, inl, inr, ℕ, ◌+◌, ◌-◌, ◌*◌, ◌<◌, ◌≤◌, Bool, true, false, refl, sym, ◌∙◌, ap, subst, List, arith}
use Rattle.std.proofs.lemmas.Bool.{cases_lt, cases_eq, false_from_ne_true}
use Rattle.std.proofs.lemmas.Bool.Decides.{nat_tests}
use Rattle.std.proofs.lemmas.Nat.{row_fits}
use Rattle.std.specs.Prelude.{Contains}
use Rattle.mdv_shown.specs.Below.{Key, SliceLine, IsMasterAt, Master, Head, Image, Spot, SameOutside, AreApart, range, Closed, gate_text, claim_text, block_of}
use Rattle.mdv_votes.specs.Spots.{same_spot}
use Rattle.mdv_votes.proofs.Meeting.{same_is}
use Rattle.mdv_shelf.proofs.Frame.{before_range, behind_range}
use Rattle.mdv_replica.proofs.Heads.{one_head}
use Rattle.mdv_replica.proofs.Readable.{readable_kept}
use Rattle.mdv_shown.specs.Site.{Site, IsSite, size_on, place_on, spot_on, line_area}
use Rattle.mdv_shown.specs.Found.{Counts, IsInChain, IsFound}

-- a block is one master at most
pub one_master : (line : SliceLine) (size : ℕ) (block : List ℕ) (a b : Master) → IsMasterAt (place_on line 8192 0 0) size block a → IsMasterAt (place_on line 8192 0 0) size block b → a ≡ b
one_master line size block a b x y =
    let headed : Master → Head = λ m. record { master = m; claim = 0; first = Closed; second = Closed } in
    let shut = block_of (gate_text Closed) in
    ap (λ (h : Head). h.master) (one_head (place_on line 8192 0 0) size block (block_of (claim_text 0)) shut shut (headed a) (headed b)
    (record { master = x.form; master_block = x.spelled; lies = x.lies; claim = omega arith; claim_block = refl; first = tt; first_block = refl; second = tt; second_block = refl })
    (record { master = y.form; master_block = y.spelled; lies = y.lies; claim = omega arith; claim_block = refl; first = tt; first_block = refl; second = tt; second_block = refl }))

-- a place ends where a later one begins, or before
pub places_step : (j k b : ℕ) → j < k → j * b + b ≤ k * b
places_step j k b lt = row_fits j b k b lt (omega arith)

pub in_range : (drive at count other block : ℕ) → range drive at count other block ≡ true → (drive ≡ other) × (at ≤ block) × (block < at + count)
in_range drive at count other block is = (grind (arith, nat_tests), grind (arith, nat_tests), grind (arith, nat_tests))

pub range_has : (drive at count block : ℕ) → at ≤ block → block < at + count → range drive at count drive block ≡ true
range_has drive at count block from to = grind (arith, nat_tests)

module _ {Table : Type 0} (Spells : List ℕ → Table → Type 0) (site : Site) (line : SliceLine) (old new : ℕ → List ℕ) (first : Master) (head : Head) where
  -- a replica in the chain rests on the blocks of its place
  pub chain_kept : (j : ℕ) → ((block : ℕ) → line.at.start + (16 + j * first.blocks) ≤ block → block < line.at.start + (16 + j * first.blocks) + first.blocks → new block ≡ old block)
      → IsInChain Spells site line j old first head → IsInChain Spells site line j new first head
  chain_kept j same is = record {
    readable = readable_kept (Counts Spells) (place_on line first.blocks first.count j) (size_on site line) old new head is.readable
        (λ block from to. same block from (omega (arith, to, is.length)));
    length = is.length;
  }

module _ {Table : Type 0} (Spells : List ℕ → Table → Type 0) (site : Site) (line : SliceLine) (old new : ℕ → List ℕ) (first : Master) where
  -- one that is found rests on the blocks from its slice's first place to its own
  pub found_kept : (k : ℕ) (head : Head)
      → ((block : ℕ) → line.at.start + 16 ≤ block → block < line.at.start + (16 + k * first.blocks) + first.blocks → new block ≡ old block)
      → IsFound Spells site line k old first head → IsFound Spells site line k new first head
  found_kept k head same is =
      let least : 16 ≤ first.blocks = is.located.lies.least in
      let kept : (j : ℕ) (h : Head) → (j * first.blocks ≤ k * first.blocks) → IsInChain Spells site line j old first h → IsInChain Spells site line j new first h
      = λ j h up. chain_kept Spells site line old new first h j (λ block from to. same block (omega (arith, from)) (omega (arith, to, up))) in
      record {
        one_of = is.one_of;
        located = record {
          form = is.located.form;
          spelled = same (line.at.start + 16) (omega arith) (omega (arith, least)) ∙ is.located.spelled;
          lies = is.located.lies;
        };
        numbered = is.numbered;
        within = is.within;
        before = λ j lt. (let c = is.before j lt in (c.0, kept j c.0 (omega (arith, places_step j k first.blocks lt)) c.1));
        here = kept k head (omega arith) is.here;
        of_key = is.of_key;
      }

-- what others rest on of a replica that is found, whatever its key
pub record IsThere {Table : Type 0} (Spells : List ℕ → Table → Type 0) (site : Site) (line : SliceLine) (k : ℕ) (content : ℕ → List ℕ) (first : Master) (head : Head) : Type 0 where
  pub one_of : Contains site.lines line
  pub located : IsMasterAt (place_on line 8192 0 0) (size_on site line) (content (line.at.start + 16)) first
  pub numbered : (k ≡ 0) ⊎ (k < first.count)
  pub within : 16 + k * first.blocks + first.blocks ≤ line.at.blocks
  pub here : IsInChain Spells site line k content first head

pub there_of : {Table : Type 0} (Spells : List ℕ → Table → Type 0) (site : Site) (key : Key) (line : SliceLine) (k : ℕ) (content : ℕ → List ℕ) (first : Master) (head : Head)
    → IsFound Spells (record site { key = key }) line k content first head → IsThere Spells site line k content first head
there_of Spells site key line k content first head is = record {
  one_of = is.one_of;
  located = is.located;
  numbered = is.numbered;
  within = is.within;
  here = record { readable = is.here.readable; length = is.here.length };
}

-- one that is found in both, with the same blocks
pub record IsKept {Table : Type 0} (Spells : List ℕ → Table → Type 0) (site : Site) (p : Spot) (old new : Image) (line : SliceLine) (k : ℕ) (first : Master) (head : Head) : Type 0 where
  pub apart : same_spot p (spot_on line first.blocks k) ≡ false
  pub found : IsFound Spells site line k (new line.at.drive.0) first head
  pub same : (block : ℕ) → line.at.start + (16 + k * first.blocks) ≤ block → block < line.at.start + (16 + k * first.blocks) + first.blocks
      → new line.at.drive.0 block ≡ old line.at.drive.0 block

abbrev pub Behind : SliceLine → ℕ → ℕ → ℕ → ℕ → Bool
Behind line k blocks = range line.at.drive.0 (line.at.start + (16 + k * blocks) + 1) (blocks - 1)

module _ {Table : Type 0} (Spells : List ℕ → Table → Type 0) (site : Site) (ok : IsSite site) (old new : Image) (L : SliceLine) (K : ℕ) (F : Master) (here : Head) where
  -- it may be found at another spot alone
  spots_apart : (line : SliceLine) (k : ℕ) (b : ℕ) → (L.at.drive.0 ≡ line.at.drive.0 → L.at.start + (16 + K * F.blocks) ≡ line.at.start + (16 + k * b) → ⊥)
      → same_spot (spot_on L F.blocks K) (spot_on line b k) ≡ false
  spots_apart line k b never = false_from_ne_true (same_spot (spot_on L F.blocks K) (spot_on line b k)) (λ is.
      let e = same_is (spot_on L F.blocks K) (spot_on line b k) is in
      never (ap (λ (s : Spot). s.drive.0) e) (ap (λ (s : Spot). s.first) e))

  module _ (there : IsThere Spells site L K (new L.at.drive.0) F here) (same : SameOutside (Behind L K F.blocks) old new) where
    -- on the slice itself
    module _ (k : ℕ) (head : Head) (is : IsFound Spells site L k (old L.at.drive.0) F head) where
      before_it : k < K → IsKept Spells site (spot_on L F.blocks K) old new L k F head
      before_it lt =
          let step = places_step k K F.blocks lt in
          let least : 16 ≤ F.blocks = is.located.lies.least in
          let kept : (block : ℕ) → block < L.at.start + (16 + k * F.blocks) + F.blocks → new L.at.drive.0 block ≡ old L.at.drive.0 block
          = λ block to. same L.at.drive.0 block (before_range L.at.drive.0 (L.at.start + (16 + K * F.blocks) + 1) (F.blocks - 1) block (omega (arith, to, step))) in
          record {
            apart = spots_apart L k F.blocks (λ d e. absurd (omega (arith, e, step, least)));
            found = found_kept Spells site L (old L.at.drive.0) (new L.at.drive.0) F k head (λ block from to. kept block to) is;
            same = λ block from to. kept block to;
          }

      behind_it : K < k → IsKept Spells site (spot_on L F.blocks K) old new L k F head
      behind_it lt =
          let step = places_step K k F.blocks lt in
          let least : 16 ≤ F.blocks = is.located.lies.least in
          let behind : (j : ℕ) (block : ℕ) → K < j → L.at.start + (16 + j * F.blocks) ≤ block → new L.at.drive.0 block ≡ old L.at.drive.0 block
          = λ j block up from.
          same L.at.drive.0 block (behind_range L.at.drive.0 (L.at.start + (16 + K * F.blocks) + 1) (F.blocks - 1) block (omega (arith, from, places_step K j F.blocks up, least))) in
          let before : (j : ℕ) (block : ℕ) → j < K → block < L.at.start + (16 + j * F.blocks) + F.blocks → new L.at.drive.0 block ≡ old L.at.drive.0 block
          = λ j block down to.
          same L.at.drive.0 block (before_range L.at.drive.0 (L.at.start + (16 + K * F.blocks) + 1) (F.blocks - 1) block (omega (arith, to, places_step j K F.blocks down))) in
          let chain : (j : ℕ) (h : Head) → (j ≡ K → ⊥) → IsInChain Spells site L j (old L.at.drive.0) F h → IsInChain Spells site L j (new L.at.drive.0) F h
          = λ j h other. chain_kept Spells site L (old L.at.drive.0) (new L.at.drive.0) F h j (λ block from to. elim (cases_lt j K) [
            | inl down ↦ before j block down to
            | inr up ↦ behind j block (omega (arith, up, other)) from
          ]) in
          record {
            apart = spots_apart L k F.blocks (λ d e. absurd (omega (arith, e, step, least)));
            found = record {
              one_of = is.one_of;
              located = there.located;
              numbered = is.numbered;
              within = is.within;
              before = λ j down. elim (cases_eq j K) [
                | inl e ↦ (here, subst (λ (n : ℕ). IsInChain Spells site L n (new L.at.drive.0) F here) (sym e) there.here)
                | inr other ↦ (let c = is.before j down in (c.0, chain j c.0 other c.1))
              ];
              here = chain k head (λ e. absurd (omega (arith, e, lt))) is.here;
              of_key = is.of_key;
            };
            same = λ block from to. behind k block lt from;
          }

      on_line : (k ≡ K) ⊎ IsKept Spells site (spot_on L F.blocks K) old new L k F head
      on_line = elim (cases_lt k K) [
        | inl down ↦ inr (before_it down)
        | inr up ↦ elim (cases_eq k K) [ inl e ↦ inl e | inr other ↦ inr (behind_it (omega (arith, up, other))) ]
      ]

    -- on a slice that has no block of it
    on_other : (line : SliceLine) → AreApart (line_area L) (line_area line) → (k : ℕ) (first : Master) (head : Head) → IsFound Spells site line k (old line.at.drive.0) first head
        → IsKept Spells site (spot_on L F.blocks K) old new line k first head
    on_other line apart k first head is =
        let d = line.at.drive.0 in
        let within = is.within in
        let its = there.within in
        let least : 16 ≤ F.blocks = there.located.lies.least in
        let also : 16 ≤ first.blocks = is.located.lies.least in
        let kept : (block : ℕ) → line.at.start ≤ block → block < line.at.start + line.at.blocks → new d block ≡ old d block
        = λ block from to. same d block (false_from_ne_true (Behind L K F.blocks d block) (λ has.
        let r = in_range L.at.drive.0 (L.at.start + (16 + K * F.blocks) + 1) (F.blocks - 1) d block has in
        apart d block
        (subst (λ (n : ℕ). range L.at.drive.0 L.at.start L.at.blocks n block ≡ true) r.0
        (range_has L.at.drive.0 L.at.start L.at.blocks block (omega (arith, r.1)) (omega (arith, r.2, its, least))))
        (range_has d line.at.start line.at.blocks block from to))) in
        record {
          apart = spots_apart line k first.blocks (λ drives e.
              apart d (line.at.start + (16 + k * first.blocks))
              (subst (λ (n : ℕ). range L.at.drive.0 L.at.start L.at.blocks n (line.at.start + (16 + k * first.blocks)) ≡ true) drives
              (range_has L.at.drive.0 L.at.start L.at.blocks (line.at.start + (16 + k * first.blocks)) (omega (arith, e)) (omega (arith, e, its, least))))
              (range_has d line.at.start line.at.blocks (line.at.start + (16 + k * first.blocks)) (omega arith) (omega (arith, within, also))));
          found = found_kept Spells site line (old d) (new d) first k head (λ block from to. kept block (omega (arith, from)) (omega (arith, to, within))) is;
          same = λ block from to. kept block (omega (arith, from)) (omega (arith, to, within));
        }

    -- each one that is found is that replica, or is found in both
    pub elsewhere : IsMasterAt (place_on L 8192 0 0) (size_on site L) (old L.at.drive.0 (L.at.start + 16)) F
        → (line : SliceLine) (k : ℕ) (first : Master) (head : Head) → IsFound Spells site line k (old line.at.drive.0) first head
        → ((line ≡ L) × (k ≡ K) × (first ≡ F)) ⊎ IsKept Spells site (spot_on L F.blocks K) old new line k first head
    elsewhere located line k first head is =
        elim (ok.apart L line there.one_of is.one_of) [
          | inr apart ↦ inr (on_other line apart k first head is)
          | inl same_line ↦
              subst (λ (l : SliceLine). (m : Master) → IsFound Spells site l k (old l.at.drive.0) m head
              → ((l ≡ L) × (k ≡ K) × (m ≡ F)) ⊎ IsKept Spells site (spot_on L F.blocks K) old new l k m head) same_line
              (λ m found.
              let same_first = one_master L (size_on site L) (old L.at.drive.0 (L.at.start + 16)) F m located found.located in
              subst (λ (n : Master). IsFound Spells site L k (old L.at.drive.0) n head
              → ((L ≡ L) × (k ≡ K) × (n ≡ F)) ⊎ IsKept Spells site (spot_on L F.blocks K) old new L k n head) same_first
              (λ f. elim (on_line k head f) [ inl e ↦ inl (refl, e, refl) | inr kept ↦ inr kept ]) found)
              first is
        ]
