use Rattle.code_form.proofs.FilesMade.{IsMade, is_made, all_found, main_in, bodies_are_in}
use Rattle.code_form.proofs.files.lower.Goals as goal

pub code_of-requires : goal.code_of-requires
code_of-requires c =
    let made : IsMade c.args.file.now c.lower_main.new.work c.lower_decls.new.bodies =
    is_made c.args.file.now c.as_slice-decls.result.now (record { procs = c.in_ok-proc_names.field-0; bound = c.new.result; nodes = c.new-2.result }) c.lower_decls.new.work c.lower_main.new.work
    c.in_ok-bodies.bodies c.lower_decls.new.bodies c.as_slice-decls.ensures c.in_ok-proc_names.ensures c.in_ok-bodies.ensures c.in_ok-lower_decls.ensures.procs c.in_ok-lower_decls.ensures.bodies
    c.in_ok-main.ensures.procs c.in_ok-main.ensures.bodies
    in
    record { found = all_found c.args.file.now c.lower_main.new.work c.lower_decls.new.bodies c.requires.plain made }

pub returns-clause-main : goal.returns-clause-main
returns-clause-main c =
    let made : IsMade c.args.file.now c.lower_main.new.work c.lower_decls.new.bodies =
    is_made c.args.file.now c.as_slice-decls.result.now (record { procs = c.in_ok-proc_names.field-0; bound = c.new.result; nodes = c.new-2.result }) c.lower_decls.new.work c.lower_main.new.work
    c.in_ok-bodies.bodies c.lower_decls.new.bodies c.as_slice-decls.ensures c.in_ok-proc_names.ensures c.in_ok-bodies.ensures c.in_ok-lower_decls.ensures.procs c.in_ok-lower_decls.ensures.bodies
    c.in_ok-main.ensures.procs c.in_ok-main.ensures.bodies
    in
    main_in c.args.file.now c.lower_main.new.work c.lower_decls.new.bodies c.requires.plain made c.code_of.result c.nodes_of.result c.in_ok-main.main c.get.result.now c.nodes_of.ensures
    c.code_of.ensures.nodes c.code_of.ensures.bodies c.code_of.ensures.main c.get.ensures c.in_ok-main.ensures.main

pub returns-clause-bodies : goal.returns-clause-bodies
returns-clause-bodies c =
    let made : IsMade c.args.file.now c.lower_main.new.work c.lower_decls.new.bodies =
    is_made c.args.file.now c.as_slice-decls.result.now (record { procs = c.in_ok-proc_names.field-0; bound = c.new.result; nodes = c.new-2.result }) c.lower_decls.new.work c.lower_main.new.work
    c.in_ok-bodies.bodies c.lower_decls.new.bodies c.as_slice-decls.ensures c.in_ok-proc_names.ensures c.in_ok-bodies.ensures c.in_ok-lower_decls.ensures.procs c.in_ok-lower_decls.ensures.bodies
    c.in_ok-main.ensures.procs c.in_ok-main.ensures.bodies
    in
    bodies_are_in c.args.file.now c.lower_main.new.work c.lower_decls.new.bodies c.requires.plain made c.code_of.result c.nodes_of.result c.nodes_of.ensures c.code_of.ensures.nodes c.code_of.ensures.bodies
