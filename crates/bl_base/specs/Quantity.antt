-- The quantities that have limits: the word of each, and the greatest number that is within it; and how deep calls go.
use Rattle.std.specs.Prelude.{ℕ, List, codes}
use Rattle.bl_base.specs.declared.quantity.Quantity.{Quantity}
use Rattle.bl_base.specs.declared.quantity.Quantity.TheVariants.{Modules, Module, Functions, Locals, Nesting, Targets, Table, Memory, Reserve, Commands, Image, Certificate, Trace, Start, Directives, Results, Counts, Interface, Variables, Weight}

abbrev pub word_of : Quantity → List ℕ
word_of Modules = codes "modules"
word_of Module = codes "module"
word_of Functions = codes "functions"
word_of Locals = codes "locals"
word_of Nesting = codes "nesting"
word_of Targets = codes "targets"
word_of Table = codes "table"
word_of Memory = codes "memory"
word_of Reserve = codes "reserve"
word_of Commands = codes "commands"
word_of Image = codes "image"
word_of Certificate = codes "certificate"
word_of Trace = codes "trace"
word_of Start = codes "start"
word_of Directives = codes "directives"
word_of Results = codes "results"
word_of Counts = codes "counts"
word_of Interface = codes "interface"
word_of Variables = codes "variables"
word_of Weight = codes "weight"

-- the greatest number that is within the limit
abbrev pub limit_of : Quantity → ℕ
limit_of Modules = 8
limit_of Module = 4194304
limit_of Functions = 10000
limit_of Locals = 4096
limit_of Nesting = 256
limit_of Targets = 1024
limit_of Table = 1024
limit_of Memory = 256
limit_of Reserve = 1024
limit_of Commands = 1048576
limit_of Image = 134217728
limit_of Certificate = 268435456
limit_of Trace = 16777216
limit_of Start = 16777216
limit_of Directives = 1000000
limit_of Results = 1024
limit_of Counts = 67108864
limit_of Interface = 1048576
limit_of Variables = 2147483647
limit_of Weight = 9223372036854775807

-- the greatest depth of calls: a call at that depth traps
abbrev pub most_calls : ℕ
most_calls = 1024
