-- Tokens that are written one behind the other.
use Rattle.std.proofs.Common.{◌∙◌, ap, sym, refl, List, [], ◌∷◌, ◌++◌, append-nil, append_assoc}
use Rattle.std.specs.Prelude.{Ok}
use Rattle.json.specs.Token.{Token}
use Rattle.json.specs.Written.{Writes, Written}
use Rattle.bl_witness.specs.Tokens.{Adds}

pub adds_none : (a : Written) → Adds a a []
adds_none a = record { before = refl; tokens = sym (append-nil a.tokens) }

pub then_all : {a b c : Written} {ts us : List Token} → Adds a b ts → Adds b c us → Adds a c (ts ++ us)
then_all {a} {b} {c} {ts} {us} h w = record { before = w.before ∙ h.before; tokens = w.tokens ∙ ap (λ s. s ++ us) h.tokens ∙ append_assoc a.tokens ts us }

pub then_one : {E : Type 0} {u : Unit {0}} {a b c : Written} {ts : List Token} {t : Token} → Adds a b ts → Writes {E = E} (Ok u) b c t → Adds a c (ts ++ t ∷ [])
then_one h w = then_all h (record { before = w.room.0; tokens = w.ok })
