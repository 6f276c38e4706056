use Rattle.std.proofs.Common.{◌∷◌, ◌++◌, Some, None, ap, ◌∙◌, rules}
use Rattle.std.specs.Path.{slash}
use Rattle.file_ports.specs.Folders.{here, root, before}
use Rattle.file_ports.proofs.FolderLemmas.{parts_of}
use Rattle.file_ports.proofs.replacing.folder_of.Goals as goal

pub returns-in-Some-empty-default : goal.returns-in-Some-empty-default
returns-in-Some-empty-default c =
    let front = c.in-Some-empty-default.field-0-0 in
    let last = c.in-Some-empty-default.field-0-1 in
    let parts = parts_of c.args.name.now (Some (front, last)) c.in-Some-empty-default.ensures.cases in
    root last.now parts.0 (parts.1 ∙ ap (λ xs. xs ++ slash ∷ last.now) c.in-Some-empty-default.is-empty)

pub returns-in-Some : goal.returns-in-Some
returns-in-Some c =
    let folder = c.in-Some.folder in
    let last = c.in-Some.field-0-1 in
    let parts = parts_of c.args.name.now (Some (folder, last)) c.in-Some.ensures.cases in
    before folder.now last.now parts.0 (search rules) parts.1

pub returns-in-None : goal.returns-in-None
returns-in-None c = here (parts_of c.args.name.now None c.in-None.ensures.cases)
