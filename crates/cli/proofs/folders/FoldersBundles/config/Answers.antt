-- The file that is opened is the bundle's config.
use Rattle.std.proofs.Common.{◌≡◌, Ok, Err, arith, inl, inr, refl, rules}
use Rattle.std.proofs.lemmas.Grind.{common_steps}
use Rattle.std.specs.IoError.{error_kind}
use Rattle.faults.specs.declared.or_memory.OrMemory.TheVariants.{Fault}
use Rattle.cli.specs.Configs.{config_path}
use Rattle.cli.proofs.folders.FoldersBundles.config.Goals as goal

pub returns-in-Err-clause-config : goal.returns-in-Err-clause-config
returns-in-Err-clause-config g c =
    let path : c.as_str.result.now ≡ config_path c.args.bundle.now = first_of (search rules, grind (arith, common_steps)) in
    inr (error_kind c.in-Err.error, rw path at c.in-Err.ensures.err, refl)

pub returns-in-Ok-read_whole-clause-config : goal.returns-in-Ok-read_whole-clause-config
returns-in-Ok-read_whole-clause-config g c =
    let path : c.as_str.result.now ≡ config_path c.args.bundle.now = first_of (search rules, grind (arith, common_steps)) in
    inl (c.in-Ok.file, rw path at c.in-Ok.ensures.ok, (Ok c.in-Ok-read_whole.bytes.items, c.in-Ok-read_whole.ensures.bytes, refl))

pub returns-clause-config : goal.returns-clause-config
returns-clause-config g c =
    let path : c.as_str.result.now ≡ config_path c.args.bundle.now = first_of (search rules, grind (arith, common_steps)) in
    inl (c.in-Ok.file, rw path at c.in-Ok.ensures.ok, (Err (Fault c.in-Err-Fault.fault), rw c.in-Err-Fault.field-0-is at c.in-Err-Fault.ensures.err, refl))

pub returns-in-Err-clause-seen : goal.returns-in-Err-clause-seen
returns-in-Err-clause-seen g c = (_, returns-in-Err-clause-config g c)

pub returns-in-Ok-read_whole-clause-seen : goal.returns-in-Ok-read_whole-clause-seen
returns-in-Ok-read_whole-clause-seen g c = (_, returns-in-Ok-read_whole-clause-config g c)

pub returns-clause-seen : goal.returns-clause-seen
returns-clause-seen g c = (_, returns-clause-config g c)
