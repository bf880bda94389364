use Rattle.std.proofs.Common.{refl, rules}
use Rattle.bl_leb.specs.Grammar.{byte}
use Rattle.bl_wasm.specs.Values.{u32}
use Rattle.bl_code.proofs.Places.{none_first, passes_none}
use Rattle.bl_labels.specs.Entries.{entry_code, entry, named, place}
use Rattle.bl_labels.specs.declared.entry.Entry.TheVariants.{SecretParam, SecretGlobal, SecretMemory, PublicResult, PublicGlobal}
use Rattle.bl_labels.proofs.EntryForms.{at_entry, none_entry, none_other, only_param, only_global, only_memory, only_result, only_public}
use Rattle.bl_labels.proofs.entry.read_entry.Goals as goal

pub returns-in_err-code : goal.returns-in_err-code
returns-in_err-code c =
    passes_none entry c.args.bytes.now c.args.at c.from_residual.result _ c.from_residual.ensures.1
    (none_first {F = byte} {S = named} entry_code c.args.bytes.now c.args.at c.in_err-code.ensures)

pub returns-in_err-param-in-0 : goal.returns-in_err-param-in-0
returns-in_err-param-in-0 c = none_entry place 0 c.in_ok-code.code c.in-0.is c.args.bytes.now c.args.at c.in_ok-code.next c.in_ok-code.ensures c.from_residual-in_err-param-in-0.result _ only_param c.from_residual-in_err-param-in-0.ensures.1 c.in_err-param-in-0.ensures

pub returns-in_ok-param-in-0 : goal.returns-in_ok-param-in-0
returns-in_ok-param-in-0 c = at_entry place 0 c.in_ok-code.code c.in-0.is c.args.bytes.now c.args.at c.in_ok-code.next c.in_ok-code.ensures SecretParam c.in_ok-param-in-0.param c.in_ok-param-in-0.end (λ t h. h) refl c.in_ok-param-in-0.ensures

pub returns-in_err-global-in-1 : goal.returns-in_err-global-in-1
returns-in_err-global-in-1 c = none_entry u32 1 c.in_ok-code.code c.in-1.is c.args.bytes.now c.args.at c.in_ok-code.next c.in_ok-code.ensures c.from_residual-in_err-global-in-1.result _ only_global c.from_residual-in_err-global-in-1.ensures.1 c.in_err-global-in-1.ensures

pub returns-in_ok-global-in-1 : goal.returns-in_ok-global-in-1
returns-in_ok-global-in-1 c = at_entry u32 1 c.in_ok-code.code c.in-1.is c.args.bytes.now c.args.at c.in_ok-code.next c.in_ok-code.ensures SecretGlobal c.in_ok-global-in-1.global c.in_ok-global-in-1.end (λ t h. h) refl c.in_ok-global-in-1.ensures

pub returns-in_err-memory-in-2 : goal.returns-in_err-memory-in-2
returns-in_err-memory-in-2 c = none_entry u32 2 c.in_ok-code.code c.in-2.is c.args.bytes.now c.args.at c.in_ok-code.next c.in_ok-code.ensures c.from_residual-in_err-memory-in-2.result _ only_memory c.from_residual-in_err-memory-in-2.ensures.1 c.in_err-memory-in-2.ensures

pub returns-in_ok-memory-in-2 : goal.returns-in_ok-memory-in-2
returns-in_ok-memory-in-2 c = at_entry u32 2 c.in_ok-code.code c.in-2.is c.args.bytes.now c.args.at c.in_ok-code.next c.in_ok-code.ensures SecretMemory c.in_ok-memory-in-2.memory c.in_ok-memory-in-2.end (λ t h. h) refl c.in_ok-memory-in-2.ensures

pub returns-in_err-found-in-3 : goal.returns-in_err-found-in-3
returns-in_err-found-in-3 c = none_entry place 3 c.in_ok-code.code c.in-3.is c.args.bytes.now c.args.at c.in_ok-code.next c.in_ok-code.ensures c.from_residual-in_err-found-in-3.result _ only_result c.from_residual-in_err-found-in-3.ensures.1 c.in_err-found-in-3.ensures

pub returns-in_ok-found-in-3 : goal.returns-in_ok-found-in-3
returns-in_ok-found-in-3 c = at_entry place 3 c.in_ok-code.code c.in-3.is c.args.bytes.now c.args.at c.in_ok-code.next c.in_ok-code.ensures PublicResult c.in_ok-found-in-3.found c.in_ok-found-in-3.end (λ t h. h) refl c.in_ok-found-in-3.ensures

pub returns-in_err-public-in-4 : goal.returns-in_err-public-in-4
returns-in_err-public-in-4 c = none_entry u32 4 c.in_ok-code.code c.in-4.is c.args.bytes.now c.args.at c.in_ok-code.next c.in_ok-code.ensures c.from_residual-in_err-public-in-4.result _ only_public c.from_residual-in_err-public-in-4.ensures.1 c.in_err-public-in-4.ensures

pub returns-in_ok-public-in-4 : goal.returns-in_ok-public-in-4
returns-in_ok-public-in-4 c = at_entry u32 4 c.in_ok-code.code c.in-4.is c.args.bytes.now c.args.at c.in_ok-code.next c.in_ok-code.ensures PublicGlobal c.in_ok-public-in-4.public c.in_ok-public-in-4.end (λ t h. h) refl c.in_ok-public-in-4.ensures

pub returns-in_default : goal.returns-in_default
returns-in_default c =
    none_other c.in_ok-code.code c.args.bytes.now c.args.at c.in_ok-code.next
    (λ e. search rules) (λ e. search rules) (λ e. search rules) (λ e. search rules) (λ e. search rules) c.in_ok-code.ensures
