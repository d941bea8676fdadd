use Rattle.std.proofs.Common.{◌≡◌, List, ℕ, codes, ◌++◌, refl, sym, ap, append_assoc, ◌∙◌}
use Rattle.base_model.specs.PathText.{path_text}
use Rattle.top_model.specs.Texts.{error}
use Rattle.std.specs.Prelude.{Ok, Err}
use Rattle.answer_text.proofs.Pieces.{same, follow, cut}
use Rattle.answer_text.proofs.refusals.write_at_path.Goals as goal

-- what stands before the path
abbrev start : List ℕ → List ℕ
start name = codes "error: document: " ++ (name ++ codes " at ")

-- the line is what stands before the path, the path and the line's end
whole : (name path : List ℕ) → start name ++ (path ++ codes "\n") ≡ error (codes "document: " ++ (name ++ codes " at " ++ path))
whole name path = ap (λ (bytes : List ℕ). codes "error: document: " ++ bytes) (sym (append_assoc (name ++ codes " at ") path (codes "\n")))

pub returns-in_err-write_line : goal.returns-in_err-write_line
returns-in_err-write_line g c = cut g.W.Sink.tells (start c.args.name.now) (path_text c.args.path.now.steps ++ codes "\n") (error (codes "document: " ++ (c.args.name.now ++ codes " at " ++ path_text c.args.path.now.steps))) (g.W.Sink.told c.args.err.now) (g.W.Sink.told c.write_line.new.sink) c.in_err-write_line.field-0.0 c.from_residual.result c.from_residual.ensures.0 (whole c.args.name.now (path_text c.args.path.now.steps))
    (same g.W.Sink.tells c.path_start.result (start c.args.name.now) (g.W.Sink.told c.args.err.now) (g.W.Sink.told c.write_line.new.sink) (Err c.in_err-write_line.field-0.0) c.path_start.ensures c.in_err-write_line.ensures)

pub returns-in_err-write_path : goal.returns-in_err-write_path
returns-in_err-write_path g c =
    let path = path_text c.args.path.now.steps in
    let tells = g.W.Sink.tells in
    same tells (start c.args.name.now ++ (path ++ codes "\n")) (error (codes "document: " ++ (c.args.name.now ++ codes " at " ++ path))) (g.W.Sink.told c.args.err.now) (g.W.Sink.told c.write_path.new.sink) c.from_residual-in_err-write_path.result (whole c.args.name.now path)
    (follow tells (start c.args.name.now) (path ++ codes "\n") (g.W.Sink.told c.args.err.now) (g.W.Sink.told c.write_line.new.sink) (g.W.Sink.told c.write_path.new.sink) c.in_ok-write_line.field-0 c.from_residual-in_err-write_path.result
    (same tells c.path_start.result (start c.args.name.now) (g.W.Sink.told c.args.err.now) (g.W.Sink.told c.write_line.new.sink) (Ok c.in_ok-write_line.field-0) c.path_start.ensures c.in_ok-write_line.ensures)
    (cut tells path (codes "\n") (path ++ codes "\n") (g.W.Sink.told c.write_line.new.sink) (g.W.Sink.told c.write_path.new.sink) c.in_err-write_path.field-0.0 c.from_residual-in_err-write_path.result c.from_residual-in_err-write_path.ensures.0 refl
    (same tells (path_text c.deref.result.now) path (g.W.Sink.told c.write_line.new.sink) (g.W.Sink.told c.write_path.new.sink) (Err c.in_err-write_path.field-0.0) (ap path_text (c.deref.ensures.value ∙ c.items.ensures)) c.in_err-write_path.ensures)))

pub returns : goal.returns
returns g c =
    let path = path_text c.args.path.now.steps in
    let tells = g.W.Sink.tells in
    same tells (start c.args.name.now ++ (path ++ codes "\n")) (error (codes "document: " ++ (c.args.name.now ++ codes " at " ++ path))) (g.W.Sink.told c.args.err.now) (g.W.Sink.told c.write_text.new.sink) c.write_text.result (whole c.args.name.now path)
    (follow tells (start c.args.name.now) (path ++ codes "\n") (g.W.Sink.told c.args.err.now) (g.W.Sink.told c.write_line.new.sink) (g.W.Sink.told c.write_text.new.sink) c.in_ok-write_line.field-0 c.write_text.result
    (same tells c.path_start.result (start c.args.name.now) (g.W.Sink.told c.args.err.now) (g.W.Sink.told c.write_line.new.sink) (Ok c.in_ok-write_line.field-0) c.path_start.ensures c.in_ok-write_line.ensures)
    (follow tells path (codes "\n") (g.W.Sink.told c.write_line.new.sink) (g.W.Sink.told c.write_path.new.sink) (g.W.Sink.told c.write_text.new.sink) c.in_ok-write_path.field-0 c.write_text.result
    (same tells (path_text c.deref.result.now) path (g.W.Sink.told c.write_line.new.sink) (g.W.Sink.told c.write_path.new.sink) (Ok c.in_ok-write_path.field-0) (ap path_text (c.deref.ensures.value ∙ c.items.ensures)) c.in_ok-write_path.ensures)
    c.write_text.ensures))
