mod NoFault
