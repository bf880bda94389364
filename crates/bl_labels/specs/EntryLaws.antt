-- That the spellings of entries are prefix-free, for their reader.
use Rattle.std.proofs.Common.{◌≡◌, ◌∙◌, ℕ, ap, arith}
use Rattle.bl_code.specs.Laws.{u32_prefix_free}
use Rattle.bl_code.specs.Unique.{Same, PrefixFree}
use Rattle.bl_code.proofs.Unique.{byte_same, seq_same, then_same}
use Rattle.bl_labels.specs.Entries.{entry_code, entry, named, place}
use Rattle.bl_labels.specs.declared.entry.Entry.{Entry}
use Rattle.bl_labels.specs.declared.entry.Entry.TheVariants.{SecretParam, SecretGlobal, SecretMemory, PublicResult, PublicGlobal}
use Rattle.bl_labels.specs.declared.labels.Place.{Place}

abbrev of_indices : ℕ → ℕ → Place
of_indices function index = record { function = function; index = index }

place_same : (x y : Place) → Same (place x) (place y) (x ≡ y)
place_same x y =
    seq_same (u32_prefix_free.same x.function y.function)
    (λ f. then_same (λ i. ap (λ n. of_indices n x.index) f ∙ ap (of_indices y.function) i) (u32_prefix_free.same x.index y.index))

-- entries that begin with one byte
named_same : (x y : Entry) → entry_code x ≡ entry_code y → Same (named x) (named y) (x ≡ y)
named_same (SecretParam x) (SecretParam y) e = then_same (ap SecretParam) (place_same x y)
named_same (SecretGlobal x) (SecretGlobal y) e = then_same (ap SecretGlobal) (u32_prefix_free.same x y)
named_same (SecretMemory x) (SecretMemory y) e = then_same (ap SecretMemory) (u32_prefix_free.same x y)
named_same (PublicResult x) (PublicResult y) e = then_same (ap PublicResult) (place_same x y)
named_same (PublicGlobal x) (PublicGlobal y) e = then_same (ap PublicGlobal) (u32_prefix_free.same x y)
named_same x y e = absurd (omega arith)

pub entry_prefix_free : PrefixFree entry
entry_prefix_free = record { same = λ x y. seq_same (byte_same (entry_code x) (entry_code y)) (named_same x y) }
