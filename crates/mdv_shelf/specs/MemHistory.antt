-- The tale that drives in memory tell: what each block held when it began, and the calls since.
use Rattle.std.specs.Prelude.{◌≡◌, ℕ, ◌≤◌, ◌%◌, List, [], ◌∷◌, ◌++◌, ◌+◌, ◌<◌, length, map, take, drop, sum, reverse, slice_index, slice_index_or, nat_lt, ◌==◌, if◌then◌else◌}
use Rattle.mdv_base.specs.declared.block.TheConstants.{ZERO_BLOCK}
use Rattle.mdv_shelf.specs.Tale.{Tale, Begun, Then, Call, Wrote, Synced, Gave, last, values, told}
use Rattle.mdv_shelf.specs.declared.mem_shelf.disk.Disk.{Disk}
use Rattle.mdv_shelf.specs.declared.mem_shelf.disk.MemCall.{MemCall}
use Rattle.mdv_shelf.specs.declared.mem_shelf.disk.MemCall.TheVariants.{Write, Sync, Give}

-- a block as a new drive has it
abbrev pub zero_block : List ℕ
zero_block = ZERO_BLOCK

-- a block of these drives; past their ends it holds nothing
abbrev pub block_of : List (List (List ℕ)) → ℕ → ℕ → List ℕ
block_of drives drive block = slice_index_or (slice_index_or drives drive []) block []

abbrev pub start_blocks : List Disk → List (List (List ℕ))
start_blocks disks = map (λ d. d.start.items) disks

abbrev pub latest_blocks : List Disk → List (List (List ℕ))
latest_blocks disks = map (λ d. d.latest.items) disks

-- how many blocks each drive has
abbrev pub lengths : List (List (List ℕ)) → List ℕ
lengths drives = map length drives

-- no drive has the block
abbrev pub IsOutside : List ℕ → ℕ → ℕ → Type 0
IsOutside sizes drive block = slice_index sizes drive ≤ block

-- the call of a tale
abbrev pub call_of : MemCall → Call
call_of (Write drive at blocks) = Wrote drive at blocks.items
call_of (Sync drive) = Synced drive
call_of (Give piece) = Gave piece.items (length piece.items)

-- a tale with these calls too, the oldest of them first
unfoldable pub continued : Tale → List MemCall → Tale
continued t [] = t
continued t (c ∷ cs) = continued (Then t (call_of c)) cs

-- a tale that begins with these blocks and these bytes told
abbrev pub begun : List (List (List ℕ)) → List ℕ → Tale
begun drives told = Begun (record { block = block_of drives; told = told })

-- what drives hold and told, whose record began when so many bytes had been told
abbrev pub tale_from : List Disk → List MemCall → ℕ → List ℕ → Tale
tale_from disks calls told_before told = continued (begun (start_blocks disks) (take told_before told)) calls

-- the k-th of a block's values, counted round from the oldest: the stable one has number 0
abbrev pub picked : List (List ℕ) → ℕ → List ℕ
picked found k = slice_index_or (reverse found) (k % length found) []

-- a read gives what the tale says
abbrev pub ShowsLast : List (List (List ℕ)) → Tale → Type 0
ShowsLast drives t = (drive block : ℕ) → block_of drives drive block ≡ last t drive block

-- the tale writes nothing past the drives' ends
abbrev pub KeepsWithin : List ℕ → Tale → Type 0
KeepsWithin sizes t = (drive block : ℕ) → IsOutside sizes drive block → values t drive block ≡ [] ∷ []

-- these blocks were laid in from that one on
abbrev pub Puts : List (List ℕ) → ℕ → List (List ℕ) → List (List ℕ) → Type 0
Puts old at blocks new = new ≡ take at old ++ blocks ++ drop (at + length blocks) old

-- of a block with these values, the newest first, so many were counted, and one was looked for by its number
pub record ScansTo (newest : List ℕ) (count : ℕ) (found : List ℕ) (wanted : ℕ) (block_values : List (List ℕ)) (block_last : List ℕ) : Type 0 where
  pub is_last : newest ≡ block_last
  pub counted : count ≡ length block_values
  pub is_found : wanted < count → found ≡ slice_index_or (reverse block_values) wanted []

-- these blocks have these values, as far as that number
abbrev pub Becomes : List (List ℕ) → ℕ → (ℕ → List ℕ) → Type 0
Becomes blocks n value = (k : ℕ) → k < n → slice_index_or blocks k [] ≡ value k

-- what a crash leaves on all drives: block after block, in order of drive and number, the next of the
-- choice's numbers picks one of the block's values
abbrev pub image_of : Tale → List ℕ → List ℕ → ℕ → ℕ → List ℕ
image_of t sizes choice drive block = picked (values t drive block) (slice_index choice (sum (take drive sizes) + block))

-- the drives below that number hold what is picked
abbrev pub PicksBelow : ℕ → Tale → List ℕ → List ℕ → List (List (List ℕ)) → Type 0
PicksBelow n t sizes choice drives = (drive block : ℕ) → drive < n → block < slice_index sizes drive → block_of drives drive block ≡ image_of t sizes choice drive block

-- the value that a crash leaves at least
abbrev pub stable : Tale → ℕ → ℕ → List ℕ
stable t drive block = picked (values t drive block) 0

-- a tale that begins with what a crash leaves
abbrev pub crashed : Tale → List ℕ → List ℕ → Tale
crashed t sizes choice = Begun (record { block = image_of t sizes choice; told = told t })

-- a tale that begins where one drive has come back, and every other one goes on
abbrev pub brought_back : Tale → ℕ → Tale
brought_back t back = Begun (record { block = λ drive block. if back == drive then stable t drive block else last t drive block; told = told t })

-- a new drive's blocks
abbrev pub blank_block : List ℕ → ℕ → ℕ → List ℕ
blank_block sizes drive block = if nat_lt block (slice_index sizes drive) then zero_block else []

-- a tale in which nothing happened yet
abbrev pub blank : List ℕ → Tale
blank sizes = Begun (record { block = blank_block sizes; told = [] })
