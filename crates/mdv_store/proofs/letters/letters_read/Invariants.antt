use Rattle.mdv_store.specs.Letters.{seen_at}
use Rattle.mdv_store.proofs.Lettering.{AreSoFar}
use Rattle.mdv_store.proofs.letters.letters_read.Given as goal

abbrev pub invariant-loop-place : goal.invariant-loop-place
invariant-loop-place l = AreSoFar (seen_at l.site l.looked.survey l.looked.calm l.sought.identity l.sought.mark l.sought.text) l.place-items l.place-index l.was l.seen
