-- Why an input can't be read.
use Rattle.std.specs.Prelude.{◌≡◌, ◌≢◌, ℕ, List, codes}
use Rattle.std.specs.declared.io.ErrorKind.{ErrorKind}
use Rattle.std.specs.declared.io.ErrorKind.TheVariants.{NotFound, IsADirectory, NotADirectory as NoFolder, PermissionDenied}
use Rattle.program_io.specs.declared.fault.ReadFault.{ReadFault}
use Rattle.program_io.specs.declared.fault.ReadFault.TheVariants.{NoSuchFile, Directory, NotADirectory, Forbidden, Failed, TooManyBytes, TooManyReads}

-- a reason in words
abbrev pub reason_of : ReadFault → List ℕ
reason_of NoSuchFile = codes "no such file"
reason_of Directory = codes "is a directory"
reason_of NotADirectory = codes "not a directory"
reason_of Forbidden = codes "permission denied"
reason_of Failed = codes "can't be read"
reason_of TooManyBytes = codes "has more than 67108864 bytes"
reason_of TooManyReads = codes "took more than 1000000 reads"

-- this reason stands for an error of this kind that the system told, and no bound was passed
abbrev pub IsTold : ErrorKind → ReadFault → Type 0
IsTold kind NoSuchFile = kind ≡ NotFound
IsTold kind Directory = kind ≡ IsADirectory
IsTold kind NotADirectory = kind ≡ NoFolder
IsTold kind Forbidden = kind ≡ PermissionDenied
IsTold kind Failed = (kind ≢ NotFound) × (kind ≢ IsADirectory) × (kind ≢ NoFolder) × (kind ≢ PermissionDenied)
IsTold kind TooManyBytes = ⊥
IsTold kind TooManyReads = ⊥
