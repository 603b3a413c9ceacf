-- The making of a mirror, and one submirror more: what refuses it, and what the mirror is.
use Rattle.std.specs.Prelude.{ℕ, Bool, false, ◌^◌, ◌==◌, ◌||◌, nat_lt, min, is_some, replicate, List, [], ◌∷◌, length, map}
use Rattle.std.specs.List.{fold, list_any}
use Rattle.mdv_submirrors.specs.Below.{VolId, Plan, Cause, NoSuchVolume, NameTaken, WrongKind, TooFew, TooMany, HasParent, TooSmall, OneVolume, Mirror, VolumeStatus, MirrorKind, volume_of, has_parent}
use Rattle.mdv_submirrors.specs.declared.mirrors.MirrorAsked.{MirrorAsked}
use Rattle.mdv_submirrors.specs.Sizes.{blocks_of, is_no_volume, is_no_stripe}

abbrev pub same_volume : VolId → VolId → Bool
same_volume v w = w.0 == v.0

-- a volume stands in the list twice
abbrev pub has_twice : List VolId → Bool
has_twice [] = false
has_twice (v ∷ vs) = list_any (same_volume v) vs || has_twice vs

-- as many as the smallest submirror has
abbrev pub mirror_blocks : Plan → List VolId → ℕ
mirror_blocks p subs = fold (λ least v. min least (blocks_of p v)) (2 ^ 63) subs

-- what refuses the mirror
abbrev pub mirror_condition : Plan → VolId → List VolId → Cause → Bool
mirror_condition p v subs NoSuchVolume = list_any (is_no_volume p) subs
mirror_condition p v subs NameTaken = is_some (volume_of p v)
mirror_condition p v subs WrongKind = list_any (is_no_stripe p) subs
mirror_condition p v subs TooFew = length subs == 0
mirror_condition p v subs TooMany = nat_lt 4 (length subs)
mirror_condition p v subs HasParent = list_any (has_parent p) subs || has_twice subs
mirror_condition p v subs TooSmall = mirror_blocks p subs == 0
mirror_condition p v subs _ = false

-- a mirror of these submirrors
abbrev pub mirror_on : Plan → VolId → MirrorAsked → OneVolume
mirror_on p v m =
    record {
      number = v;
      kind = Mirror (record { submirrors = m.submirrors; read = m.read; write = m.write; pass = m.pass; blocks = mirror_blocks p m.submirrors });
    }

abbrev pub starts_offline : VolId → Bool
starts_offline v = false

-- no submirror is offline, and no region is dirty
abbrev pub mirror_status : VolId → List VolId → VolumeStatus
mirror_status v subs = record { number = v; kind = MirrorKind (record { offline = map starts_offline subs; dirty = replicate 128 0 }) }
