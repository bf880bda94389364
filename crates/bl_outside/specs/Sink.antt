-- What a sink means: the bytes taken so far, and a count of faults.
use Rattle.std.specs.Prelude.{◌≡◌, ℕ, ◌≤◌, List, ◌++◌, Option, Some, None, Result, Ok, Err, take}
use Rattle.bl_outside.specs.Faults.{Rose, one_more}
use Rattle.bl_outside.specs.declared.sink.SinkFault.{SinkFault}

-- the bytes after a push: as many of the piece as it answers, none where it failed
abbrev pub after_push : Result ℕ SinkFault → Option (List ℕ) → List ℕ → Option (List ℕ)
after_push result None piece = None
after_push (Ok n) (Some taken) piece = Some (taken ++ take n piece)
after_push (Err e) (Some taken) piece = Some taken

-- the count after a push: it rose where the push failed, else it is as before
abbrev pub PushFaults : Result ℕ SinkFault → ℕ → ℕ → Type 0
PushFaults (Ok n) old new = new ≡ old
PushFaults (Err e) old new = Rose old new × (old ≤ new)

-- the count after a push, where each fault counts one
abbrev pub count_after_push : Result ℕ SinkFault → ℕ → ℕ
count_after_push (Ok n) old = old
count_after_push (Err e) old = one_more old

-- what a writer holds, where it says so, and the count of faults
pub record Writing : Type 0 where
  pub held : Option (List ℕ)
  pub faults : ℕ
