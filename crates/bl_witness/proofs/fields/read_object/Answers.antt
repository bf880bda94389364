use Rattle.std.proofs.Common.{◌≡◌, ◌∙◌, ◌∷◌, sym, arith}
use Rattle.json.specs.Reads.{token_of}
use Rattle.serde_json.specs.Data.{object}
use Rattle.bl_witness.proofs.FirstTokens.{not_object}
use Rattle.bl_witness.proofs.Turns.{lacks_none, lacks_object, takes_object}
use Rattle.bl_witness.proofs.fields.read_object.Goals.{in_default-via-in-BeginObject+else-depth-gt0, in_default-via-in_default}
use Rattle.bl_witness.proofs.fields.read_object.Goals as goal

pub returns-in_err-token-clause-err : goal.returns-in_err-token-clause-err
returns-in_err-token-clause-err g c refused = lacks_none c.args.depth c.args.reader.now (grind arith)

pub returns-in_err-fields-in-BeginObject-clause-err : goal.returns-in_err-fields-in-BeginObject-clause-err
returns-in_err-fields-in-BeginObject-clause-err g c refused =
    let first : c.args.reader.now ≡ token_of c.in_ok-token.token ∷ c.next.new.self = grind arith in
    rw (first, c.in-BeginObject.is) (lacks_object c.args.depth c.next.new.self (omega arith) (c.read_members.ensures.err (grind arith)))

pub returns-in_ok-fields-in-BeginObject-clause-ok : goal.returns-in_ok-fields-in-BeginObject-clause-ok
returns-in_ok-fields-in-BeginObject-clause-ok g c =
    let first : c.args.reader.now ≡ token_of c.in_ok-token.token ∷ c.next.new.self = grind arith in
    let found = c.in_ok-fields-in-BeginObject.ensures.ok in
    (object found.0, rw (first, c.in-BeginObject.is) (takes_object c.args.depth c.next.new.self (omega arith) found.0 c.read_members.new.reader found.1), c.into_whole.ensures ∙ found.2)

pub returns-in_ok-pass_rest-in_default-clause-ok : goal.returns-in_ok-pass_rest-in_default-clause-ok
returns-in_ok-pass_rest-in_default-clause-ok g c =
    let first : c.args.reader.now ≡ token_of c.in_ok-token.token ∷ c.next.new.self = grind arith in
    let found = c.in_ok-pass_rest-in_default.ensures.ok in
    let none = not_object c.args.depth c.next.new.self c.pass_rest.new.reader c.in_ok-token.token found.0 found.1 (λ some is. elim c.in_default.branch [ in_default-via-in-BeginObject+else-depth-gt0 w ↦ omega arith | in_default-via-in_default w ↦ w.in_default.not-BeginObject is ]) in
    (found.0, rw first found.1, sym (g.met.F.Fields.of_objects found.0 none))
