-- Masters of a slice are blanked on which the newest version lists no place, before places are formatted there.
use Rattle.std.proofs.Common.{◌≡◌, inl, inr, ⊎_elim, ℕ, ◌+◌, ◌-◌, ◌*◌, ◌<◌, List, [], refl, sym, ap, subst, Contains, Option, None, Some, arith}
use Rattle.std.proofs.lemmas.Bool.{false_from_ne_true}
use Rattle.std.specs.Prelude.{max}
use Rattle.mdv_replica.specs.Images.{Overwrites, Wipes}
use Rattle.mdv_replica.specs.Replica.{blank_master}
use Rattle.mdv_shown.specs.Formats.{lost_with}
use Rattle.mdv_shown.specs.Laws.{Reads}
use Rattle.mdv_shown.proofs.Formatting.{law_blank}
use Rattle.mdv_shown.proofs.Wiped.{in_from}
use Rattle.mdv_standing.specs.Below.{Core, FirstIs, Identity, Image, IsSite, Log, Master, MayWipe, Site, SliceLine, Spot, Table, Version, is_named, place_on}
use Rattle.mdv_standing.specs.Matching.{lists_of, tables_of}
use Rattle.mdv_standing.specs.Placing.{AreWipedOrNone, IsBare, IsIdle, IsUnlisted}
use Rattle.mdv_standing.specs.Worlds.{IsReadyWith, IsWorld, Turned}
use Rattle.mdv_standing.proofs.Blanking.{no_first_still}
use Rattle.mdv_standing.proofs.Listed.{blank_still, listed_still}
use Rattle.mdv_standing.proofs.Unlisting.{unlisted_wiping}
use Rattle.mdv_standing.proofs.Within.{wipe_within}

-- On a slice without a first master nothing is found, whatever is blanked there.
module _ (read : List ℕ → Option Table) (site : Site) (identity : Identity) (log : Log) (w : Core) (old new : Image) (line : SliceLine) (blocks count k : ℕ) (ok : IsSite site) (looks : Contains site.lines line) where
  pub world_rests : 16 + k * blocks < line.at.blocks → FirstIs site old line None → MayWipe (place_on line blocks count k) old new → IsWorld (Reads read) site identity log w old → IsWorld (Reads read) site identity log w new
  world_rests within none change world =
      let outside = wipe_within line k blocks count old new within change in
      let still = no_first_still site line (place_on line blocks count k) old new change none in
      record {
        reached = world.reached;
        matches = world.matches;
        shows = law_blank Table read site identity (tables_of log.family) w old new line ok looks none still outside world.shows;
        listed = listed_still (Reads read) site identity log w old new (blank_still (Reads read) site identity old new ok line looks none outside) world.listed;
      }

-- The first master of a slice where the newest version lists no place goes, whatever it led to.
module _ (read : List ℕ → Option Table) (site : Site) (identity : Identity) (log : Log) (w : Core) (old new : Image) (v : Version) (took : List Spot) (line : SliceLine) (blocks count : ℕ)
    (i : IsIdle (Reads read) site identity log w old v took) (looks : Contains site.lines line) (within : 16 + 0 * blocks < line.at.blocks) (bare : IsBare site v line) where
  -- it is the same block, whatever length the places have
  same_first : (first : Master) → MayWipe (place_on line blocks count 0) old new → MayWipe (place_on line first.blocks first.count 0) old new
  same_first first change =
      let same : line.at.start + (16 + 0 * blocks) ≡ line.at.start + (16 + 0 * first.blocks) = omega arith in
      ⊎_elim (λ kept. inl kept) (λ (wipes : Wipes (place_on line blocks count 0) old new). inr (subst (λ (n : ℕ). Overwrites line.at.drive.0 n blank_master old new) same wipes)) change

  unlisted : (first : Master) → FirstIs site old line (Some first) → IsUnlisted site v old line 0 first
  unlisted first located = record {
    has = record { site_is = i.site_is; one_of = looks; located = located };
    within = omega (arith, within);
    none = λ q has.
        let from = in_from line first.blocks 0 (max 1 first.count - 0) q has in
        let least = located.lies.least in
        let inside = from.within in
        let at : line.at.start + (16 + from.number * first.blocks) ≡ q.first = ap (λ (s : Spot). s.first) from.spot in
        false_from_ne_true (is_named (lists_of site v) q) (λ named. bare q named (ap (λ (s : Spot). s.drive.0) (sym from.spot)) (omega (arith, at)) (omega (arith, at, inside, least)));
  }

  pub first_going : (before : Option Master) → FirstIs site old line before → MayWipe (place_on line blocks count 0) old new
      → Turned (Reads read) site identity log w new (AreWipedOrNone (lost_with line before)) (IsReadyWith took)
  first_going None none change = record { events = []; are = inl refl; may = tt; world = world_rests read site identity log w old new line blocks count 0 i.site_is looks within none change i.world; known = i.known }
  first_going (Some first) located change = unlisted_wiping (Reads read) site identity log w old new v took line 0 first i (unlisted first located) (same_first first change)
