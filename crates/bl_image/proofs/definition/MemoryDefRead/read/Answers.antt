use Rattle.std.proofs.Common.{refl, ℕ}
use Rattle.bl_base.specs.declared.names.Label.{Label}
use Rattle.bl_program.specs.declared.definitions.MemoryDef.{MemoryDef}
use Rattle.bl_image.specs.declared.rising.Rows.{Rows}
use Rattle.bl_format.specs.Image.{memory}
use Rattle.bl_image.proofs.ReaderLemmas.{parts_passes, parts_read}
use Rattle.bl_image.proofs.definition.MemoryDefRead.read.Goals as goal

-- the parts, one after another, and what they make up
abbrev parts : MemoryDef → ℕ × (ℕ × (Label × Rows))
parts one = (one.pages, (one.reserve, (one.label, record { 0 = one.rows })))

abbrev whole : ℕ × (ℕ × (Label × Rows)) → MemoryDef
whole p = record { pages = p.0; reserve = p.1.0; label = p.1.1.0; rows = p.1.1.1.0 }

pub returns-in_err-pages : goal.returns-in_err-pages
returns-in_err-pages c = parts_passes memory parts whole c.args.bytes.now c.args.at c.from_residual.result _ c.from_residual.ensures.1 c.in_err-pages.ensures

pub returns : goal.returns
returns c = let read = c.in_ok-pages in parts_read memory parts whole c.args.bytes.now c.args.at read.place (record { pages = read.pages; reserve = read.reserve; label = read.label; rows = read.rows.0 }) (λ y. refl) read.ensures
