-- `cgx_read_fields::fields_of` is right: a readable record of a kind has what the reader of that kind asks, and its fields by their offsets are those of its body. Assumes nothing.
use Rattle.cgx_read_fields.proofs.Ready.{told, read_as, library-ready, struct-ready, cprpty-ready, property-ready, layer-ready, box-ready, poly-ready, wire-ready, text-ready, endlib-read}
use Rattle.cgx_read_fields.proofs.Srefs.{sref-ready}
use Rattle.cgx_read_fields.proofs.fields_of.Goals as goal

pub library_of-requires : goal.library_of-requires
library_of-requires c = library-ready (told c.in-Library.is c.requires)

pub struct_of-requires : goal.struct_of-requires
struct_of-requires c = struct-ready (told c.in-Struct.is c.requires)

pub cprpty_of-requires : goal.cprpty_of-requires
cprpty_of-requires c = cprpty-ready (told c.in-Cprpty.is c.requires)

pub property_of-requires : goal.property_of-requires
property_of-requires c = property-ready (told c.in-Property.is c.requires)

pub layer_of-requires : goal.layer_of-requires
layer_of-requires c = layer-ready (told c.in-Layer.is c.requires)

pub box_of-requires : goal.box_of-requires
box_of-requires c = box-ready (told c.in-Box.is c.requires)

pub poly_of-requires : goal.poly_of-requires
poly_of-requires c = poly-ready (told c.in-Poly.is c.requires)

pub wire_of-requires : goal.wire_of-requires
wire_of-requires c = wire-ready (told c.in-Wire.is c.requires)

pub text_of-requires : goal.text_of-requires
text_of-requires c = text-ready (told c.in-Text.is c.requires)

pub sref_of-requires : goal.sref_of-requires
sref_of-requires c = sref-ready (told c.in-Sref.is c.requires)

pub returns-in-Library : goal.returns-in-Library
returns-in-Library c = read_as c.requires c.in-Library.is (c.library_of.ensures c.args.fl)

pub returns-in-Struct : goal.returns-in-Struct
returns-in-Struct c = read_as c.requires c.in-Struct.is (c.struct_of.ensures c.args.fl)

pub returns-in-Cprpty : goal.returns-in-Cprpty
returns-in-Cprpty c = read_as c.requires c.in-Cprpty.is (c.cprpty_of.ensures c.args.fl)

pub returns-in-Property : goal.returns-in-Property
returns-in-Property c = read_as c.requires c.in-Property.is (c.property_of.ensures c.args.fl)

pub returns-in-Layer : goal.returns-in-Layer
returns-in-Layer c = read_as c.requires c.in-Layer.is (c.layer_of.ensures c.args.fl)

pub returns-in-Box : goal.returns-in-Box
returns-in-Box c = read_as c.requires c.in-Box.is (c.box_of.ensures c.args.fl)

pub returns-in-Poly : goal.returns-in-Poly
returns-in-Poly c = read_as c.requires c.in-Poly.is (c.poly_of.ensures c.args.fl)

pub returns-in-Wire : goal.returns-in-Wire
returns-in-Wire c = read_as c.requires c.in-Wire.is (c.wire_of.ensures c.args.fl)

pub returns-in-Text : goal.returns-in-Text
returns-in-Text c = read_as c.requires c.in-Text.is (c.text_of.ensures c.args.fl)

pub returns-in-Sref : goal.returns-in-Sref
returns-in-Sref c = read_as c.requires c.in-Sref.is c.sref_of.ensures

pub returns-in-Endlib : goal.returns-in-Endlib
returns-in-Endlib c = read_as c.requires c.in-Endlib.is (endlib-read c.args.fl c.args.f.now c.args.at c.args.size)
