-- The other databases while one is written.
use Rattle.std.proofs.Common.{◌≡◌, inl, inr, ℕ, ◌+◌, ◌*◌, ◌<◌, ◌^◌, List, sym, ◌∙◌, Option, Contains}
use Rattle.mdv_name.specs.Sound.{IsSound}
use Rattle.mdv_shown.specs.Found.{Counts}
use Rattle.mdv_shown.specs.Sites.{site_of}
use Rattle.mdv_shown.proofs.Sites.{lines_apart}
use Rattle.mdv_standing.specs.Below.{FirstIs, Geometry, HasFirst, Head, Identity, Image, IsFormat, IsOwn, IsTable, Key, Mark, Master, MayClaim, MayFill, MayFormat, MayWipe, SliceLine, Slot, Table, after_all, master_on, place_on}
use Rattle.mdv_standing.specs.Databases.{Database}
use Rattle.mdv_standing.specs.Holding.{HasWorld, IsOneOf}
use Rattle.mdv_standing.specs.Others.{Anything, IsAlone, IsBeside, IsLoss}
use Rattle.mdv_standing.specs.Rest.{HoldsRest, IsRest, MayBeTaken}
use Rattle.mdv_standing.specs.Worlds.{Turned}
use Rattle.mdv_standing.proofs.Knowing.{known_claims, known_first, known_later, known_slots, known_wipes}
use Rattle.mdv_standing.proofs.Others.{claims_leave, first_formats_take, later_formats_take, slots_leave, world_apart}
use Rattle.mdv_standing.proofs.Wiping.{wipes_leave}
use Rattle.mdv_standing.proofs.Within.{apart_or_in, format_within}

module _ (Spells : List ℕ → Table → Type 0) (g : Geometry) (all : List Database) (old new : Image) (sound : IsSound g) (key : Key) (identity : Identity) (rest : HoldsRest Spells g all identity old) (line : SliceLine) where
  module _ (k : ℕ) (first : Master) (head : Head) (own : IsOwn Spells (site_of g key) identity line k old first head) where
    beside : (d : Database) → IsRest all identity d → IsBeside Spells g d.key d.identity key old line k first head
    beside d is = record { sound = sound; found = own.found; another = λ at same. is.1 (sym same ∙ own.of_identity) }

    pub rest_claims : (number : ℕ) → number < 2 ^ 63 → MayClaim (place_on line first.blocks first.count k) number old new → HoldsRest Spells g all identity new
    rest_claims number small change = record {
      worlds = λ d is. (let w = rest.worlds d is in (w.0, claims_leave Spells g d.key d.identity d.log w.0 old new key line k first head (beside d is) w.1 number small change));
      known = known_claims Spells g all old new sound rest.known key line k first head own.found number small change;
      once = rest.once;
    }

    pub rest_slots : (slot : Slot) (mark : Mark) (bytes : ℕ) (body : List (List ℕ)) → IsTable (Counts Spells) (place_on line first.blocks first.count k) mark bytes body
        → MayFill (place_on line first.blocks first.count k) slot mark bytes body old new → HoldsRest Spells g all identity new
    rest_slots slot mark bytes body table change = record {
      worlds = λ d is. (let w = rest.worlds d is in (w.0, slots_leave Spells g d.key d.identity d.log w.0 old new key line k first head (beside d is) w.1 slot mark bytes body table change));
      known = known_slots Spells g all old new sound rest.known key line k first head own.found slot mark bytes body table change;
      once = rest.once;
    }

  turned : (d : Database) (w : _) → Turned Spells (site_of g d.key) d.identity d.log w new IsLoss Anything → HasWorld Spells g new d
  turned d w to = (after_all w to.events, to.world)

  module _ (one : IsOneOf all key identity) (taken : (d : Database) → IsRest all identity d → MayBeTaken Spells g line old d) where
    -- where the boots of another don't look on that slice its world stays
    away : (blocks count k number : ℕ) → IsFormat (site_of g key) identity old line blocks count k number → MayFormat (place_on line blocks count k) (master_on (site_of g key) identity line blocks count k) number old new
        → (d : Database) → (Contains (site_of g d.key).lines line → ⊥) → HasWorld Spells g old d → HasWorld Spells g new d
    away blocks count k number f change d out w = elim (apart_or_in (site_of g d.key).lines line (λ b has. lines_apart g sound key d.key line b f.one_of has)) [
      | inl has ↦ absurd (out has)
      | inr apart ↦ (w.0, world_apart Spells g d.key d.identity d.log w.0 old new line apart (format_within line k blocks count old new f.within f.lies.least (master_on (site_of g key) identity line blocks count k) number change) w.1)
    ]

    other : (d : Database) → IsRest all identity d → key ≡ d.key → identity ≡ d.identity → ⊥
    other d is at same = is.1 (sym same)

    pub rest_first : (blocks count number : ℕ) (before : Option Master) → IsFormat (site_of g key) identity old line blocks count 0 number → FirstIs (site_of g key) old line before
        → MayFormat (place_on line blocks count 0) (master_on (site_of g key) identity line blocks count 0) number old new → HoldsRest Spells g all identity new
    rest_first blocks count number before f located change = record {
      worlds = λ d is. (let w = rest.worlds d is in elim (taken d is) [
        | inl out ↦ away blocks count 0 number f change d out w
        | inr lose ↦ turned d w.0 (first_formats_take Spells g d.key d.identity d.log w.0 old new key identity line sound (other d is) w.1 lose blocks count number before f located change)
      ]);
      known = known_first Spells g all old new sound rest.known key line identity one blocks count number before f located change;
      once = rest.once;
    }

    pub rest_later : (k number : ℕ) (first : Master) → 0 < k → IsFormat (site_of g key) identity old line first.blocks first.count k number → HasFirst (site_of g key) old line first
        → MayFormat (place_on line first.blocks first.count k) (master_on (site_of g key) identity line first.blocks first.count k) number old new → HoldsRest Spells g all identity new
    rest_later k number first some f has change = record {
      worlds = λ d is. (let w = rest.worlds d is in elim (taken d is) [
        | inl out ↦ away first.blocks first.count k number f change d out w
        | inr lose ↦ turned d w.0 (later_formats_take Spells g d.key d.identity d.log w.0 old new key identity line sound (other d is) w.1 lose k number first some f has change)
      ]);
      known = known_later Spells g all old new sound rest.known key line identity one k number first some f has change;
      once = rest.once;
    }

-- One of the database's places is blanked.
module _ (Spells : List ℕ → Table → Type 0) (g : Geometry) (all : List Database) (old new : Image) (sound : IsSound g) (key : Key) (identity : Identity) (rest : HoldsRest Spells g all identity old) (line : SliceLine) (k : ℕ) (first : Master)
    (has : HasFirst (site_of g key) old line first) (within : 16 + k * first.blocks < line.at.blocks) (alone : IsAlone Spells g identity old line k) where
  pub rest_wipes : MayWipe (place_on line first.blocks first.count k) old new → HoldsRest Spells g all identity new
  rest_wipes change = record {
    worlds = λ d is. (let w = rest.worlds d is in (w.0, wipes_leave Spells g sound d.key d.identity d.log w.0 old new key identity line k first (λ same. is.1 (sym same)) has within alone w.1 change));
    known = known_wipes Spells g all old new sound rest.known key line k first has within change;
    once = rest.once;
  }
