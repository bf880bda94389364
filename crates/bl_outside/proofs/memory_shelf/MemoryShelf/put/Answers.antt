use Rattle.std.proofs.Common.{rules, ◌≡◌, ℕ, List, ap, subst}
use Rattle.std.specs.Prelude.{string_bytes}
use Rattle.std.specs.FinMap.{insert}
use Rattle.bl_outside.specs.Shelf.{Files, Faults}
use Rattle.bl_outside.specs.MemoryShelf.{Shelved}
use Rattle.bl_outside.proofs.Shelves.{files-updates}
use Rattle.bl_outside.proofs.memory_shelf.MemoryShelf.put.Goals as goal

-- a shelf whose files alone changed
with-entry : (s : Shelved) (files new : Files) (faults : Faults) (calls : ℕ) (failing name bytes : List ℕ)
    → ◌≡◌ {A = Shelved} (record { files = files; faults = faults; calls = calls; failing = failing }) s
    → new ≡ insert files name bytes
    → ◌≡◌ {A = Shelved} (record { files = new; faults = faults; calls = calls; failing = failing }) (record s { files = insert s.files name bytes })
with-entry s files new faults calls failing name bytes view made =
    subst (λ (s : Shelved). ◌≡◌ {A = Shelved} (record { files = new; faults = faults; calls = calls; failing = failing }) (record s { files = insert s.files name bytes })) view
    (ap (λ (f : Files). record { files = f; faults = faults; calls = calls; failing = failing }) made)

pub returns-clause-ok : goal.returns-clause-ok
returns-clause-ok c =
    let made = files-updates c.self.inside.entries c.insert.new.self _ _ c.in_ok-insert.ensures.updates in
    let key : string_bytes c.in_ok-key.key ≡ c.args.name.now = search rules in
    let value : c.in_ok-value.value.items ≡ c.args.bytes.now = search rules in
    with-entry c.args.self.now _ _ _ _ _ _ _ c.self.view_is (rw (key, value) at made)
