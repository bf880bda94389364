-- A shelf in memory.
use Rattle.std.specs.Prelude.{ℕ, List, Contains, Result, Ok, Err, Vec, String, string_bytes, refl}
use Rattle.std.specs.Coded.{Coded, code_by, coded×, coded_ℕ, coded_list}
use Rattle.std.specs.FinMap as fin
use Rattle.std.specs.declared.alloc.Global.{Global}
use Rattle.bl_outside.specs.Faults.{one_more}
use Rattle.bl_outside.specs.Shelf.{Files, Faults, faults_after_fetch, faults_after_keep}
use Rattle.bl_outside.specs.declared.shelf.ShelfError.{ShelfError}

-- the files, the faults, how many calls there were, and the numbers of the calls that fail
pub record Shelved : Type 0 where
  pub files : Files
  pub faults : Faults
  pub calls : ℕ
  pub failing : List ℕ

-- a shelf is stored as the tuple of its parts
abbrev pub shelved_code : Coded Shelved
shelved_code =
    code_by (Files × (ℕ × (ℕ × (List ℕ × (ℕ × List ℕ))))) (coded× (fin.code (coded_list coded_ℕ) (coded_list coded_ℕ))
    (coded× coded_ℕ (coded× coded_ℕ (coded× (coded_list coded_ℕ) (coded× coded_ℕ (coded_list coded_ℕ))))))
    (λ s. (s.files, (s.faults.reads, (s.faults.writes, (s.faults.last, (s.calls, s.failing))))))
    (λ p. record {
      files = p.0;
      faults = record { reads = p.1.0; writes = p.1.1.0; last = p.1.1.1.0 };
      calls = p.1.1.1.1.0;
      failing = p.1.1.1.1.1;
    })
    (λ _. refl)

-- an entry as a name and bytes
abbrev pub named : String Global × Vec ℕ Global → List ℕ × List ℕ
named entry = (string_bytes entry.0, entry.1.items)

-- the call that comes next is one of those that fail
abbrev pub NextFails : Shelved → Type 0
NextFails shelf = Contains shelf.failing (one_more shelf.calls)

-- the shelf after a fetch or a part: one call more, and a read fault where it failed
abbrev pub after_fetch : {X : Type 0} → Result X ShelfError → Shelved → List ℕ → Shelved
after_fetch result shelf name = record shelf { calls = one_more shelf.calls; faults = faults_after_fetch result shelf.faults name }

-- the files after a keep: the entry is new where it succeeded
abbrev pub files_after_keep : Result (Unit {0}) ShelfError → Files → List ℕ → List ℕ → Files
files_after_keep (Ok x) files name bytes = fin.insert files name bytes
files_after_keep (Err e) files name bytes = files

-- the shelf after a keep: one call more, and the entry where it succeeded, else a write fault where it failed
abbrev pub after_keep : Result (Unit {0}) ShelfError → Shelved → List ℕ → List ℕ → Shelved
after_keep result shelf name bytes =
    record shelf {
      calls = one_more shelf.calls;
      files = files_after_keep result shelf.files name bytes;
      faults = faults_after_keep result shelf.faults name;
    }
