-- Looking for the lowest free inode, as the code does it.
use Rattle.std.specs.Prelude.{ℕ, cond, Some, None}
use Rattle.layout.specs.declared.inode.Inode.{Inode}
use Rattle.reading.specs.Lowest.{or_else}
use Rattle.writing.specs.Creates.{is_free}
use Rattle.writing.specs.declared.vacancy.FreeInode.{FreeInode}

-- What is known after one inode more.
abbrev pub free_after : FreeInode → ℕ → Inode → FreeInode
free_after s i inode = record { found = or_else s.found (cond (is_free i inode) (Some i) None) }
