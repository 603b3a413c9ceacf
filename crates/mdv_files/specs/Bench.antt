-- What a bench over image files has of drives and of failures.
use Rattle.std.specs.Prelude.{ℕ, List, map, slice_index}
use Rattle.mdv_shelf.specs.Calls.{Part, OnDrive, OnReplies}
use Rattle.mdv_name.specs.declared.drive_line.DriveLine.{DriveLine}
use Rattle.mdv_files.specs.declared.image.Image.{Image}

abbrev pub sizes_of : List Image → List ℕ
sizes_of images = map (λ i. i.blocks) images

-- the blocks of the drives of a table
abbrev pub sizes_in : List DriveLine → List ℕ
sizes_in drives = map (λ drive. drive.blocks) drives

abbrev pub fault_counts : List Image → List ℕ
fault_counts images = map (λ i. i.faults) images

-- how often a part failed, of drives with these images and so many failed givings
abbrev pub faults_of : List Image → ℕ → Part → ℕ
faults_of images replies (OnDrive drive) = slice_index (fault_counts images) drive
faults_of images replies OnReplies = replies
