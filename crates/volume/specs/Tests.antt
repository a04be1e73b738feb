-- What a visitor that tests each inode has found out.
use Rattle.std.specs.Prelude.{ℕ, Bool, ◌&&◌}
use Rattle.volume.specs.declared.each.Each.{Each}
use Rattle.layout.specs.declared.inode.Inode.{Inode}

-- What is known after one inode more.
abbrev pub each_after : {T : Type 0} → (T → ℕ → Inode → Bool) → Each T → ℕ → Inode → Each T
each_after passes e n i = record { test = e.test; passed = passes e.test n i && e.passed }
