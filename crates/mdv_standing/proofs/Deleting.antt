-- The master of a database's only place is blanked.
use Rattle.std.proofs.Common.{◌≡◌, ◌⊎◌, inl, inr, ℕ, zero, suc, ◌+◌, ◌-◌, ◌*◌, ◌<◌, ◌≤◌, ◌||◌, true, false, List, [], ◌∷◌, refl, sym, ◌∙◌, ap, subst, cond, not, Option, None, Some, arith}
use Rattle.std.proofs.lemmas.Bool.{and_from, cond-true, false_from_ne_true, le-leb, or_left, or_right}
use Rattle.std.specs.Prelude.{max, nat_le}
use Rattle.mdv_quorum.specs.May.{MayAll, is_firm_in, is_only, is_only_place, is_single, may_wipe}
use Rattle.mdv_quorum.specs.World.{given_up, wiped_at}
use Rattle.mdv_replica.specs.Images.{Wipes}
use Rattle.mdv_shown.specs.Wipes.{spots_behind, spots_from, wiped_all}
use Rattle.mdv_shown.proofs.Wiped.{in_from, wipe_ends}
use Rattle.mdv_votes.specs.Family.{change_at, wiped}
use Rattle.mdv_votes.proofs.Meeting.{same_is, same_self}
use Rattle.mdv_standing.specs.Below.{Core, Ends, Identity, Image, Lives, Log, Master, MayWipe, Over, Reading, Ready, Site, SliceLine, Spot, SpotLists, Stage, Table, Version, after_all, is_in, is_named, last_table, place_on, same_spot, spot_on}
use Rattle.mdv_standing.specs.Matching.{IsDeleted, Matches, spot_floor, spots_of, tables_of}
use Rattle.mdv_standing.specs.Placing.{AreWipedOrNone, IsEnding}
use Rattle.mdv_standing.specs.Worlds.{IsReadyWith, IsWorld, Turned}
use Rattle.mdv_standing.proofs.Creating.{floor_wiped, since_wiped, wipe_each}
use Rattle.mdv_standing.proofs.Idle.{idle_firm, idle_lists}
use Rattle.mdv_standing.proofs.Cutting.{cut_is, cut_loose}
use Rattle.mdv_standing.proofs.Reaching.{reached_more}

-- the first of them is that of the slice's first place
first_spot : (line : SliceLine) (b n : ℕ) → 0 < n → 16 + 0 * b + b ≤ line.at.blocks → spots_from line b 0 n ≡ spot_on line b 0 ∷ spots_from line b 1 (n - 1)
first_spot line b zero some fits = absurd (omega (arith, some))
first_spot line b (suc n) some fits =
    let rest = spots_from line b 1 n in
    cond-true (nat_le (16 + 0 * b + b) line.at.blocks) (spot_on line b 0 ∷ rest) rest (le-leb (16 + 0 * b + b) line.at.blocks fits)
    ∙ ap (λ (k : ℕ). spot_on line b 0 ∷ spots_from line b 1 k) (back n)
  where
    back : (k : ℕ) → k ≡ suc k - 1
    back k = omega arith

module _ (Spells : List ℕ → Table → Type 0) (site : Site) (identity : Identity) (log : Log) (w : Core) (old new : Image) (v : Version) (took : List Spot) (line : SliceLine) (first : Master)
    (e : IsEnding Spells site identity log w old v took line first) where
  abbrev m : Matches site log w
  m = e.idle.world.matches

  abbrev p : Spot
  p = spot_on line first.blocks 0

  abbrev rest : List Spot
  rest = spots_from line first.blocks 1 (max 1 first.count - 0 - 1)

  spots_are : spots_behind line first 0 ≡ p ∷ rest
  spots_are = first_spot line first.blocks (max 1 first.count - 0) (omega arith) e.fits

  last_is : (last_table w).lists ≡ record { first = p ∷ []; second = None; mediators = [] }
  last_is =
      idle_lists Spells site identity log w old v took e.idle ∙ ap (spots_of site) e.only
      ∙ ap (λ (q : Spot). record { first = q ∷ []; second = None; mediators = [] }) e.spot

  named : is_named (last_table w).lists p ≡ true
  named = ap (λ (l : SpotLists). is_named l p) last_is ∙ or_left (same_spot p p || false) false (or_left (same_spot p p) false (same_self p))

  -- those behind it are others
  loose : (q : Spot) → is_in rest q ≡ true → (q.mediator ≡ false) × (is_firm_in w.family w.firm q ≡ false)
  loose q has =
      let from = in_from line first.blocks 1 (max 1 first.count - 0 - 1) q has in
      let place : q.mediator ≡ false = ap (λ (s : Spot). s.mediator) (sym from.spot) in
      let least = e.has.located.lies.least in
      let differs : same_spot p q ≡ false = false_from_ne_true (same_spot p q) (λ same. behind from.number first.blocks from.from least (ap (λ (s : Spot). s.first) (same_is p q same ∙ sym from.spot))) in
      let unnamed : is_named (last_table w).lists q ≡ false =
      ap (λ (l : SpotLists). is_named l q) last_is ∙ ap (λ (b : _). cond b false ((same_spot p q || false) || false)) place ∙ ap (λ (b : _). (b || false) || false) differs in
      (place, ap (λ (o : Option ℕ). is_firm_in w.family o q) (idle_firm Spells site identity log w old v took e.idle) ∙ unnamed)
    where
      behind : (n b : ℕ) → 1 ≤ n → 16 ≤ b → line.at.start + (16 + 0 * b) ≡ line.at.start + (16 + n * b) → ⊥
      behind zero b some least same = absurd (omega (arith, some))
      behind (suc n) b some least same = (let product = product_step n b in absurd (omega (arith, same, least, product)))
        where
          product_step : (k x : ℕ) → x ≤ suc k * x
          product_step k x = omega arith

  -- behind the first
  abbrev ended : Core
  ended = record w { places = change_at w.places p wiped; deleted = Some p; stage = Reading [] }

  abbrev final : Core
  final = record ended { places = wipe_each ended.places rest }

  step : wiped_at w p w.stage ≡ ended
  step =
      ap (wiped_at w p) e.idle.known.stage
      ∙ cond-true (is_named (last_table w).lists p) ended (record w { places = change_at w.places p wiped; stage = Ready (given_up p e.idle.known.in_hand) }) named

  leads : after_all w (wiped_all (spots_behind line first 0)) ≡ final
  leads = ap (λ (l : List Spot). after_all w (wiped_all l)) spots_are ∙ ap (λ (x : Core). after_all x (wiped_all rest)) step ∙ cut_is rest ended refl

  only_one : is_only_place (last_table w).lists p ≡ true
  only_one = ap (λ (l : SpotLists). is_only_place l p) last_is ∙ and_from (is_only (p ∷ []) p) (is_single None) (and_from (same_spot p p) true (same_self p) refl) refl

  fits : MayAll w (wiped_all (spots_behind line first 0))
  fits = subst (λ (l : List Spot). MayAll w (wiped_all l)) (sym spots_are) (
    subst (λ (s : Stage). may_wipe w p s ≡ true) (sym e.idle.known.stage) (and_from (not p.mediator) (not (is_firm_in w.family w.firm p) || is_only_place (last_table w).lists p) refl
        (or_right (not (is_firm_in w.family w.firm p)) (is_only_place (last_table w).lists p) only_one)),
    subst (λ (x : Core). MayAll x (wiped_all rest)) (sym step) (cut_loose rest ended refl loose),
  )

  ends_lives : log.fate ≡ Lives → ⊥
  ends_lives lives = absurd (by (sym e.ends ∙ lives))
    where
      by : Ends ≡ Lives → ⊥
      by same = cc

  ends_over : log.fate ≡ Over → ⊥
  ends_over over = absurd (by (sym e.ends ∙ over))
    where
      by : Ends ≡ Over → ⊥
      by same = cc

  final_matches : Matches site log final
  final_matches = record {
    kind = m.kind;
    book = m.book;
    as_many = m.as_many;
    each = m.each;
    answered = m.answered;
    dropped = λ q i is. m.dropped q i (sym (since_wiped (p ∷ rest) w.places q) ∙ is);
    steady = m.steady;
    reused = λ q. subst (λ (f : ℕ). f ≤ spot_floor site log q) (sym (floor_wiped (p ∷ rest) w.places q)) (m.reused q);
    there = λ lives. absurd (ends_lives lives);
    gone = λ over. absurd (ends_over over);
  }

  pub ending_wiped : Wipes (place_on line first.blocks first.count 0) old new → Turned Spells site identity log w new (λ es. es ≡ wiped_all (spots_behind line first 0)) IsDeleted
  ending_wiped wipes = record {
    events = wiped_all (spots_behind line first 0);
    are = refl;
    may = fits;
    world = record {
      reached = reached_more site w (wiped_all (spots_behind line first 0)) e.idle.world.reached fits;
      matches = subst (Matches site log) (sym leads) final_matches;
      shows = wipe_ends Spells site identity (tables_of log.family) w old new line 0 first e.has (let fits = e.fits in let least = e.has.located.lies.least in omega (arith, fits, least)) e.idle.world.shows wipes;
      listed = inr (inr (p, ap (λ (x : Core). x.deleted) leads));
    };
    known = (p, ap (λ (x : Core). x.deleted) leads);
  }

  pub ending_wiping : MayWipe (place_on line first.blocks first.count 0) old new → Turned Spells site identity log w new (AreWipedOrNone (spots_behind line first 0)) (λ x. IsReadyWith took x ⊎ IsDeleted x)
  ending_wiping change = elim change [
    | inl same ↦ record { events = []; are = inl refl; may = tt; world = subst (λ (image : Image). IsWorld Spells site identity log w image) (λ i drive block. sym (same drive block) i) e.idle.world; known = inl e.idle.known }
    | inr wipes ↦ (let to = ending_wiped wipes in record { events = to.events; are = inr to.are; may = to.may; world = to.world; known = inr to.known })
  ]
