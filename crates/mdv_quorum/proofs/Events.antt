-- Events behind events.
use Rattle.std.proofs.Common.{◌≡◌, refl, List, [], ◌∷◌, ◌++◌}
use Rattle.mdv_quorum.specs.declared.event.Event.{Event}
use Rattle.mdv_quorum.specs.declared.machine.Core.{Core}
use Rattle.mdv_quorum.specs.World.{happens, after_all}
use Rattle.mdv_quorum.specs.May.{MayAll, Joins, HasOneMore}

pub after_both : (w : Core) (es fs : List Event) → after_all w (es ++ fs) ≡ after_all (after_all w es) fs
after_both w [] fs = refl
after_both w (e ∷ es) fs = after_both (happens w e) es fs

pub may_both : (w : Core) (es fs : List Event) → MayAll w es → MayAll (after_all w es) fs → MayAll w (es ++ fs)
may_both w [] fs m n = n
may_both w (e ∷ es) fs m n = (m.0, may_both (happens w e) es fs m.1 n)

pub may_front : (w : Core) (es fs : List Event) → MayAll w (es ++ fs) → MayAll w es
may_front w [] fs m = tt
may_front w (e ∷ es) fs m = (m.0, may_front (happens w e) es fs m.1)

pub may_back : (w : Core) (es fs : List Event) → MayAll w (es ++ fs) → MayAll (after_all w es) fs
may_back w [] fs m = m
may_back w (e ∷ es) fs m = may_back (happens w e) es fs m.1

pub joins : (w : Core) (es fs : List Event) → Joins w es fs
joins w es fs = record { after = after_both w es fs; may = may_both w es fs; first = may_front w es fs; rest = may_back w es fs }

pub one_more : (w : Core) (es : List Event) (e : Event) → HasOneMore w es e
one_more w es e = record { after = after_both w es (e ∷ []); may = λ m n. may_both w es (e ∷ []) m (n, tt) }
